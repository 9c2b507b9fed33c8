use Rattle.std.proofs.Common.{length, map}
use Rattle.glob_text.specs.Marks.{mark_of}
use Rattle.glob_text.specs.Nodes.{drawing_of}
use Rattle.glob_text.proofs.lemmas.Nodes.{IsRead}
use Rattle.glob_text.proofs.choices.read_marks.Given as goal

abbrev pub invariant-loop-mark : goal.invariant-loop-mark
invariant-loop-mark g l = IsRead (map mark_of l.marks) (map mark_of l.left) (drawing_of l.drawing)

abbrev pub decreases-loop-mark : goal.decreases-loop-mark
decreases-loop-mark g l = length l.left
