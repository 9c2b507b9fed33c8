use Rattle.std.proofs.Common.{length, map}
use Rattle.glob_text.specs.Marks.{mark_of}
use Rattle.glob_text.proofs.lemmas.Pieces.{PiecesSoFar}
use Rattle.glob_text.proofs.part.pieces_of.Given as goal

abbrev pub invariant-loop-mark : goal.invariant-loop-mark
invariant-loop-mark g l = PiecesSoFar (map mark_of l.marks) l.pieces.items (map mark_of l.left)

abbrev pub decreases-loop-mark : goal.decreases-loop-mark
decreases-loop-mark g l = length l.left
