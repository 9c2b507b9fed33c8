use Rattle.std.proofs.Common.{◌↔◌, length}
use Rattle.wildcards.specs.Sets.{Has}
use Rattle.wildcards.proofs.indices.has.Given as goal

abbrev pub invariant-loop-first : goal.invariant-loop-first
invariant-loop-first l = Has l.list l.number ↔ Has l.left l.number

abbrev pub decreases-loop-first : goal.decreases-loop-first
decreases-loop-first l = length l.left
