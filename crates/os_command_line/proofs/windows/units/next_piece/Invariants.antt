use Rattle.std.proofs.Common.{◌≡◌, [], length}
use Rattle.platform_str.specs.Strings.{bytes}
use Rattle.os_command_line.specs.WindowsViews.{left_after}
use Rattle.os_command_line.proofs.windows.units.next_piece.Given as goal

abbrev pub invariant-loop-piece : goal.invariant-loop-piece
invariant-loop-piece l = left_after [] l.fn.tail ≡ left_after [] l.tail

abbrev pub decreases-loop-piece : goal.decreases-loop-piece
decreases-loop-piece l = length (bytes l.tail.rest)
