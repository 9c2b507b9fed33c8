use Rattle.std.proofs.Common.{◌≤◌, ◌-◌, length}
use Rattle.wildcards.specs.Filters.{CoversBelow}
use Rattle.wildcards.proofs.pattern_set.PatternSet.new.Given as goal

abbrev pub invariant-loop-at : goal.invariant-loop-at
invariant-loop-at g l = (l.at ≤ length l.patterns.items) × CoversBelow l.options l.filter l.patterns.items l.at

abbrev pub decreases-loop-at : goal.decreases-loop-at
decreases-loop-at g l = length l.patterns.items - l.at
