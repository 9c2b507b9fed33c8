use Rattle.std.proofs.Common.{◌∷◌, ◌∙◌, ap, arith, length, sym, ◌==◌, ◌≡◌, true, false}
use Rattle.std.proofs.lemmas.List.{nil_from_length}
use Rattle.wildcards.specs.Match.{Fits, TakesLetter}
use Rattle.wildcards.proofs.lemmas.Readings.{nothing_read}
use Rattle.wildcards.proofs.lemmas.Fitting.{by_letters}
use Rattle.wildcards.proofs.lemmas.Wilds.{to_many, one_more, left_over}
use Rattle.wildcards.proofs.run.up_to_many.Goals as goal

pub returns-in-Many : goal.returns-in-Many
returns-in-Many g c =
    (to_many TakesLetter Fits by_letters _ _ _ _ c.loop-first.invariant.0 _ (c.in-Some.ensures.cases.0 ∙ ap (λ t. t ∷ c.in-Some.rest.now) c.in-Many.is), c.loop-first.invariant.1)

pub loop-first-preserved : goal.loop-first-preserved
loop-first-preserved g c =
    let first = c.in-Some-first_letter.ensures in (
      one_more TakesLetter Fits by_letters _ _ _ _ c.loop-first.invariant.0 _ _ (c.in-Some.ensures.cases.0 ∙ ap (λ t. t ∷ c.in-Some.rest.now) c.in-One.is) _ _ first.letters_are (c.fits.ensures.0 c.if-not-fits.false),
      (let h = c.loop-first.invariant.1.0 in let k = first.shorter in omega arith, first.formed_after),
    )

pub returns-else-is_empty : goal.returns-else-is_empty
returns-else-is_empty g c =
    left_over TakesLetter Fits by_letters _ _ _ _ c.loop-first.invariant.0 (nil_from_length _ c.in_default.ensures.cases)
    (λ e. let never : false ≡ true = sym c.if-is_empty.false ∙ c.is_empty.ensures ∙ ap (λ x. length x == 0) (nothing_read g.L.Letters.formed g.L.Letters.letters g.met.L.Letters.laws _ c.loop-first.invariant.1.1 e) in cc)
