use Rattle.std.proofs.Common.{◌≡◌, ◌∷◌, ◌++◌, [], ◌∙◌, true, false, ap, sym, subst}
use Rattle.std.proofs.lemmas.List.{nil_from_length}
use Rattle.wildcards.specs.Match.{Fits, TakesLetter}
use Rattle.wildcards.proofs.lemmas.Readings.{no_letters, last_ascii}
use Rattle.wildcards.proofs.lemmas.Wilds.{none_last, last_one, last_alike}
use Rattle.wildcards.proofs.run.match_last.Goals as goal

pub returns-in_default-split_last : goal.returns-in_default-split_last
returns-in_default-split_last g c m =
    none_last TakesLetter Fits _ _ _ (c.in-Some.ensures.cases.0 ∙ ap (λ t. c.in-Some.before.now ++ t ∷ []) c.in-One.is) _
    (ap g.L.Letters.letters (nil_from_length _ c.in_default-split_last.ensures.cases) ∙ no_letters g.L.Letters.formed g.L.Letters.letters g.met.L.Letters.laws)
    (c.loop-last.invariant.alike.0 m)

pub returns-then-not-fits : goal.returns-then-not-fits
returns-then-not-fits g c m =
    let no : ¬ (false ≡ true) = λ e. cc in
    let read = last_ascii g.L.Letters.formed g.L.Letters.letters g.met.L.Letters.laws _ _ _ c.if-byte-ge128.false c.in-Some-split_last.ensures.cases.0 c.loop-last.invariant.formed_left in
    no (c.if-not-fits.ensures.1 (subst (Fits c.in-One.item) (sym c.from.ensures) (last_one TakesLetter Fits _ _ _ (c.in-Some.ensures.cases.0 ∙ ap (λ t. c.in-Some.before.now ++ t ∷ []) c.in-One.is) _ _ _ read.1 (c.loop-last.invariant.alike.0 m)).0))

pub loop-last-preserved : goal.loop-last-preserved
loop-last-preserved g c =
    let read = last_ascii g.L.Letters.formed g.L.Letters.letters g.met.L.Letters.laws _ _ _ c.if-byte-ge128.false c.in-Some-split_last.ensures.cases.0 c.loop-last.invariant.formed_left in
    let alike = last_alike TakesLetter Fits _ _ _ (c.in-Some.ensures.cases.0 ∙ ap (λ t. c.in-Some.before.now ++ t ∷ []) c.in-One.is) _ _ _ read.1 (subst (Fits c.in-One.item) c.from.ensures (c.fits.ensures.0 c.if-not-fits.false)) in
    record {
      alike = (λ m. alike.0 (c.loop-last.invariant.alike.0 m), λ m. c.loop-last.invariant.alike.1 (alike.1 m));
      formed_left = read.0;
    }
