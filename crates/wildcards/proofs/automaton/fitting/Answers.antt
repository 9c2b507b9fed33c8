use Rattle.std.proofs.Common.{◌∷◌, ◌++◌, [], ◌∙◌, ap}
use Rattle.std.proofs.lemmas.List.{nil_from_length}
use Rattle.wildcards.specs.Match.{Fits}
use Rattle.wildcards.specs.Places.{FitsFirst}
use Rattle.wildcards.proofs.lemmas.Flags.{all_flags, fitting_first, fitting_past_many, fitting_past_one}
use Rattle.wildcards.proofs.automaton.fitting.Goals as goal

pub loop-last-init : goal.loop-last-init
loop-last-init g c = fitting_first Fits c.args.letter _

pub loop-last-preserved-in-Many : goal.loop-last-preserved-in-Many
loop-last-preserved-in-Many g c =
    fitting_past_many Fits _ _ _ _ _ c.loop-last.invariant (c.in-Some.ensures.cases.0 ∙ ap (λ t. c.in-Some.before.now ++ t ∷ []) c.in-Many.is)

pub loop-last-preserved : goal.loop-last-preserved
loop-last-preserved g c =
    fitting_past_one Fits _ _ _ _ _ c.loop-last.invariant _ _ _ _ (c.in-Some.ensures.cases.0 ∙ ap (λ t. c.in-Some.before.now ++ t ∷ []) c.in-One.is) c.fits.ensures c.shifted.ensures c.with_lowest-word.ensures

pub returns : goal.returns
returns g c = all_flags (FitsFirst Fits c.args.letter) _ _ _ c.loop-last.invariant (nil_from_length _ c.in_default.ensures.cases)
