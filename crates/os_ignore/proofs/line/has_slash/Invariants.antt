use Rattle.std.proofs.Common.{◌≡◌, length}
use Rattle.os_ignore.specs.Lines.{has_slash}
use Rattle.os_ignore.proofs.line.has_slash.Given as goal

abbrev pub invariant-loop-first : goal.invariant-loop-first
invariant-loop-first l = has_slash l.letters ≡ has_slash l.left

abbrev pub decreases-loop-first : goal.decreases-loop-first
decreases-loop-first l = length l.left
