use Rattle.std.proofs.Common.{◌≡◌, ◌++◌, length}
use Rattle.os_ignore.specs.ClassSteps.{all_cases}
use Rattle.os_ignore.proofs.class.all_cases.Given as goal

abbrev pub invariant-loop-first : goal.invariant-loop-first
invariant-loop-first g l = l.cases.items ++ all_cases l.left ≡ all_cases l.ranges

abbrev pub decreases-loop-first : goal.decreases-loop-first
decreases-loop-first g l = length l.left
