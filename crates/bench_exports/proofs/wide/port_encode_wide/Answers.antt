use Rattle.std.proofs.Common.{◌≡◌, ℕ, ◌<◌, ◌≤◌, List, [], ◌∷◌, ◌++◌, length, take, Result, Ok, Err, subst, ap, ◌∙◌, arith}
use Rattle.std.proofs.lemmas.List.{append-nil, length-take-le}
use Rattle.wtf8_core.specs.Wtf8.{HasUnits}
use Rattle.wtf8_core.specs.Items.{AreUnitItems}
use Rattle.wtf8_core.specs.declared.fault.EncodingError.{EncodingError}
use Rattle.wtf8_core.proofs.lemmas.reader.FirstErr.{oks, one_more_ok, units_all_ok, units_first_err}
use Rattle.bench_exports.specs.Answers.{IsFaulty}
use Rattle.bench_exports.proofs.lemmas.Filling.{one_more, same_filled}
use Rattle.bench_exports.proofs.lemmas.Room.{unit_fits}
use Rattle.bench_exports.proofs.wide.port_encode_wide.Goals as goal

abbrev Item : Type 0
Item = Result ℕ EncodingError

-- where one more unit comes, there are fewer before it than fit
unit_has_room : (bytes out : List ℕ) (left rest : List Item) (item : Item) (written : ℕ)
    → left ≡ item ∷ rest → written ≤ length out → AreUnitItems bytes (oks (take written out) ++ left) → written < length bytes
unit_has_room bytes out left rest item written next within all =
    let few = unit_fits bytes (take written out) item rest (subst (λ items. AreUnitItems bytes (oks (take written out) ++ items)) next all) in
    let before = length-take-le written out within in
    omega arith

-- one more unit is written
unit_written : (bytes : List ℕ) (left rest : List Item) (item : Item) (unit : ℕ) → left ≡ item ∷ rest → item ≡ Ok unit
    → (done : List ℕ) → AreUnitItems bytes (oks done ++ left) → AreUnitItems bytes (oks (done ++ unit ∷ []) ++ rest)
unit_written bytes left rest item unit next is done =
    subst (AreUnitItems bytes) (ap (λ items. oks done ++ items) (next ∙ ap (λ x. x ∷ rest) is) ∙ one_more_ok done unit rest)

faulty : (bytes done : List ℕ) (left rest : List Item) (item : Item) (fault : EncodingError) → left ≡ item ∷ rest → item ≡ Err fault
    → AreUnitItems bytes (oks done ++ left) → IsFaulty bytes
faulty bytes done left rest item fault next is all =
    let items = subst (AreUnitItems bytes) (ap (λ items. oks done ++ items) (next ∙ ap (λ x. x ∷ rest) is)) all in
    let before = units_first_err bytes done fault rest items in
    (fault, (before.code_points, before.first))

whole : (bytes : List ℕ) (left : List Item) → left ≡ [] → (done : List ℕ) → AreUnitItems bytes (oks done ++ left) → HasUnits bytes done
whole bytes left end done all =
    units_all_ok bytes done (subst (AreUnitItems bytes) (ap (λ items. oks done ++ items) end ∙ append-nil (oks done)) all)

pub bounds-out-written : goal.bounds-out-written
bounds-out-written c =
    let filled = c.loop-item.invariant in
    let fits = unit_has_room c.args.bytes.now c.loop-item.out _ _ _ c.loop-item.written c.in-Some.ensures.steps filled.within filled.prefix in
    omega (arith, filled.same_length, c.requires.room)

pub loop-item-preserved : goal.loop-item-preserved
loop-item-preserved c =
    one_more _ _ c.args.out.now c.loop-item.out c.loop-item.written c.in-Ok.unit
    (unit_written c.args.bytes.now _ _ _ c.in-Ok.unit c.in-Some.ensures.steps c.in-Ok.is) (bounds-out-written c) c.loop-item.invariant

pub returns-in-Err-clause-fault : goal.returns-in-Err-clause-fault
returns-in-Err-clause-fault c most =
    faulty c.args.bytes.now _ _ _ _ c.in-Err.field-0 c.in-Some.ensures.steps c.in-Err.is c.loop-item.invariant.prefix

pub returns-clause-units : goal.returns-clause-units
returns-clause-units c less =
    same_filled _ _ c.args.out.now c.loop-item.out c.loop-item.written (whole c.args.bytes.now _ c.in-None.ensures.steps.0) c.loop-item.invariant
