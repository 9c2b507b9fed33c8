use Rattle.std.proofs.Common.{◌↔◌, length}
use Rattle.wildcards.specs.Sets.{Has}
use Rattle.glob_patterns.proofs.mixed_set.has.Given as goal

abbrev pub invariant-loop-first : goal.invariant-loop-first
invariant-loop-first l = Has l.list l.options ↔ Has l.left l.options

abbrev pub decreases-loop-first : goal.decreases-loop-first
decreases-loop-first l = length l.left
