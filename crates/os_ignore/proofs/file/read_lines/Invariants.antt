use Rattle.std.proofs.Common.{◌≤◌, ◌+◌, length}
use Rattle.std.specs.List.{AllByRecursion}
use Rattle.os_ignore.specs.Tags.{IsTag}
use Rattle.os_ignore.specs.Components.{pieces, left_pieces, left_size}
use Rattle.os_ignore.specs.Files.{IsLineRead, without_mark}
use Rattle.wildcards.specs.Items.{ReadsLists}
use Rattle.os_ignore.proofs.file.read_lines.Given as goal

abbrev pub invariant-loop-left : goal.invariant-loop-left
invariant-loop-left g l =
    record {
      read : ReadsLists (IsLineRead l.fn.folds) (1, pieces 0xA (without_mark l.fn.file)) l.lines.items (l.number, left_pieces 0xA l.left);
      few : l.number + left_size l.left ≤ length l.fn.file + 2;
      tags : AllByRecursion (λ line. IsTag line line.tag) l.lines.items;
    }

abbrev pub decreases-loop-left : goal.decreases-loop-left
decreases-loop-left g l = left_size l.left
