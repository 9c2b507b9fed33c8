use Rattle.std.proofs.Common.{length}
use Rattle.glob_text.proofs.lemmas.Folding.{IsFoldedSoFar}
use Rattle.glob_text.proofs.fold.folded.Given as goal

abbrev pub invariant-loop-range : goal.invariant-loop-range
invariant-loop-range g l = IsFoldedSoFar l.ranges l.folded.items l.left

abbrev pub decreases-loop-range : goal.decreases-loop-range
decreases-loop-range g l = length l.left
