use Rattle.std.proofs.Common.{◌≡◌, ℕ, ◌<◌, ◌≤◌, List, [], ◌∷◌, ◌++◌, length, take, subst, sym, ap, ◌∙◌, arith, append_assoc}
use Rattle.std.proofs.lemmas.List.{length-append, length-take-le}
use Rattle.wtf8_core.specs.Wtf8.{HasUnits}
use Rattle.bench_exports.proofs.lemmas.Filling.{one_more}
use Rattle.bench_exports.proofs.wide.port_decode_wide.Goals as goal

-- where one more byte comes, there are fewer before it than fit
byte_fits : (units out left rest : List ℕ) (written byte room : ℕ) → ((bytes : List ℕ) → HasUnits bytes units → length bytes ≤ room)
    → left ≡ byte ∷ rest → written ≤ length out → HasUnits (take written out ++ left) units → written < room
byte_fits units out left rest written byte room fits next within all =
    let fit = fits (take written out ++ left) all in
    let parts = length-append (take written out) left in
    let before = length-take-le written out within in
    let some = ap length next in
    omega arith

-- one more byte is written
byte_written : (units left rest : List ℕ) (byte : ℕ) → left ≡ byte ∷ rest → (done : List ℕ) → HasUnits (done ++ left) units → HasUnits ((done ++ byte ∷ []) ++ rest) units
byte_written units left rest byte next done =
    subst (λ bytes. HasUnits bytes units) (ap (λ bytes. done ++ bytes) next ∙ sym (append_assoc done (byte ∷ []) rest))

pub bounds-out-written : goal.bounds-out-written
bounds-out-written c =
    let filled = c.loop-byte.invariant in
    let fits = byte_fits c.args.units.now c.loop-byte.out _ _ c.loop-byte.written _ (length c.args.out.now) c.requires.room c.in-Some.ensures.steps filled.within filled.prefix in
    omega (arith, filled.same_length)

pub loop-byte-preserved : goal.loop-byte-preserved
loop-byte-preserved c =
    one_more _ _ c.args.out.now c.loop-byte.out c.loop-byte.written c.in-Some.byte
    (byte_written c.args.units.now _ _ c.in-Some.byte c.in-Some.ensures.steps) (bounds-out-written c) c.loop-byte.invariant
