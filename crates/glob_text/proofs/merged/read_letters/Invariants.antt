use Rattle.std.proofs.Common.{◌≤◌, List, ◌++◌, length, map}
use Rattle.wildcards.specs.declared.range.Range.{Range}
use Rattle.glob_text.specs.Marks.{Mark, mark_of}
use Rattle.glob_text.specs.Merged.{AreLetters}
use Rattle.glob_text.proofs.merged.read_letters.Given as goal

abbrev pub invariant-loop-mark : goal.invariant-loop-mark
invariant-loop-mark g l =
    ((ranges : List Range) (after : List Mark) → AreLetters l.separators (map mark_of l.left) ranges after → AreLetters l.separators (map mark_of l.text) (l.ranges.items ++ ranges) after)
    × (length l.left ≤ length l.text)

abbrev pub decreases-loop-mark : goal.decreases-loop-mark
decreases-loop-mark g l = length l.left
