use Rattle.std.proofs.Common.{◌≡◌, ◌||◌, length}
use Rattle.wildcards.specs.Ranges.{is_in, AreOrdered}
use Rattle.wildcards.proofs.range.is_in.Given as goal

abbrev pub invariant-loop-left : goal.invariant-loop-left
invariant-loop-left l = (is_in l.left l.letter ≡ is_in l.ranges l.letter) × AreOrdered l.left

abbrev pub decreases-loop-left : goal.decreases-loop-left
decreases-loop-left l = length l.left

abbrev pub invariant-loop-range : goal.invariant-loop-range
invariant-loop-range l = (l.found || is_in l.left l.letter) ≡ is_in l.ranges l.letter

abbrev pub decreases-loop-range : goal.decreases-loop-range
decreases-loop-range l = length l.left
