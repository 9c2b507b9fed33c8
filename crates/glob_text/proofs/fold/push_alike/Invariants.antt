use Rattle.std.proofs.Common.{◌-◌, length}
use Rattle.glob_text.proofs.lemmas.Folding.{IsAddedSoFar}
use Rattle.glob_text.proofs.fold.push_alike.Given as goal

abbrev pub invariant-loop-at : goal.invariant-loop-at
invariant-loop-at g l = IsAddedSoFar l.range l.fn.folded.items l.folded.items l.at

abbrev pub decreases-loop-at : goal.decreases-loop-at
decreases-loop-at g l = length l.pairs - l.at
