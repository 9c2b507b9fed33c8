use Rattle.std.proofs.Common.{◌≡◌, length}
use Rattle.os_ignore.specs.PatternText.{all_stars}
use Rattle.os_ignore.proofs.pattern.all_stars.Given as goal

abbrev pub invariant-loop-first : goal.invariant-loop-first
invariant-loop-first g l = all_stars l.pieces ≡ all_stars l.left

abbrev pub decreases-loop-first : goal.decreases-loop-first
decreases-loop-first g l = length l.left
