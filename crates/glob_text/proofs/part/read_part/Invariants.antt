use Rattle.std.proofs.Common.{◌≤◌, length, map}
use Rattle.glob_text.specs.Marks.{mark_of}
use Rattle.glob_text.specs.Chosen.{marks_at}
use Rattle.glob_text.specs.Parts.{IsPiece}
use Rattle.wildcards.specs.Items.{Reads}
use Rattle.glob_text.proofs.part.read_part.Given as goal

abbrev pub invariant-loop-index : goal.invariant-loop-index
invariant-loop-index g l = Reads (IsPiece l.separators) (marks_at (map mark_of l.marks) l.text) l.own.items (marks_at (map mark_of l.marks) l.left) × (length l.left ≤ length l.text)

abbrev pub decreases-loop-index : goal.decreases-loop-index
decreases-loop-index g l = length l.left
