use Rattle.std.proofs.Common.{subst}
use Rattle.glob_text.proofs.lemmas.Folding.{IsFoldedSoFar, one_folded}
use Rattle.glob_text.proofs.fold.folded.Goals as goal

pub loop-range-preserved : goal.loop-range-preserved
loop-range-preserved g c =
    one_folded c.args.ranges.now c.loop-range.folded.items _ c.in-Some.range.now c.in-Some.rest.now
    (subst (λ z. IsFoldedSoFar c.args.ranges.now c.loop-range.folded.items z) c.in-Some.ensures.cases.0 c.loop-range.invariant) c.in_ok-push_alike.ensures
