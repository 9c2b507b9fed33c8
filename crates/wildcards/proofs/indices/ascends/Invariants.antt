use Rattle.std.proofs.Common.{length}
use Rattle.wildcards.specs.Sets.{Ascends}
use Rattle.wildcards.proofs.indices.ascends.Given as goal

abbrev pub invariant-loop-first : goal.invariant-loop-first
invariant-loop-first l = Ascends l.left → Ascends l.list

abbrev pub decreases-loop-first : goal.decreases-loop-first
decreases-loop-first l = length l.left
