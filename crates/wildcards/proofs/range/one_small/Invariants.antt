use Rattle.std.proofs.Common.{length}
use Rattle.wildcards.specs.Small.{HasOneSmall}
use Rattle.wildcards.proofs.range.one_small.Given as goal

abbrev pub invariant-loop-range : goal.invariant-loop-range
invariant-loop-range l = HasOneSmall l.left l.small → HasOneSmall l.ranges l.small

abbrev pub decreases-loop-range : goal.decreases-loop-range
decreases-loop-range l = length l.left
