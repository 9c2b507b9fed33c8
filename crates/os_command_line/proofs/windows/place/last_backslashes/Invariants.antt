use Rattle.std.proofs.Common.{◌≡◌, ◌+◌, ◌++◌, length}
use Rattle.os_command_line.specs.Windows.{backslashes}
use Rattle.os_command_line.proofs.windows.place.last_backslashes.Given as goal

abbrev pub invariant-loop-last : goal.invariant-loop-last
invariant-loop-last l = (l.text ≡ l.rest ++ backslashes l.count) × (length l.rest + l.count ≡ length l.text)

abbrev pub decreases-loop-last : goal.decreases-loop-last
decreases-loop-last l = length l.rest
