use Rattle.std.proofs.Common.{length}
use Rattle.path_rules.specs.Taken.{AreTakenSoFar}
use Rattle.path_rules.proofs.stripped.after_base.Given as goal

abbrev pub invariant-loop-want : goal.invariant-loop-want
invariant-loop-want l = AreTakenSoFar l.fn.head l.fn.base.items l.left l.wanted.items

abbrev pub decreases-loop-want : goal.decreases-loop-want
decreases-loop-want l = length l.wanted.items
