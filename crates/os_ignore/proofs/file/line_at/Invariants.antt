use Rattle.std.proofs.Common.{◌≡◌}
use Rattle.std.specs.List.{slice_get}
use Rattle.os_ignore.specs.Components.{pieces, left_pieces, left_size}
use Rattle.os_ignore.proofs.file.line_at.Given as goal

abbrev pub invariant-loop-left : goal.invariant-loop-left
invariant-loop-left l = slice_get (pieces 0xA l.fn.text) l.fn.index ≡ slice_get (left_pieces 0xA l.left) l.before

abbrev pub decreases-loop-left : goal.decreases-loop-left
decreases-loop-left l = left_size l.left
