use Rattle.std.proofs.Common.{◌≡◌, ◌-◌, ◌++◌, length, take, drop}
use Rattle.wildcards.specs.Ranges.{reaches}
use Rattle.wildcards.proofs.range.reaches.Given as goal

abbrev pub invariant-loop-at : goal.invariant-loop-at
invariant-loop-at g l = reaches 0 l.fn.ranges.items ≡ take l.at l.reaching.items ++ reaches l.reach (drop l.at l.reaching.items)

abbrev pub decreases-loop-at : goal.decreases-loop-at
decreases-loop-at g l = length l.reaching.items - l.at
