use Rattle.std.proofs.Common.{◌≤◌, length}
use Rattle.os_ignore.specs.PatternText.{IsPiece}
use Rattle.wildcards.specs.Items.{Reads}
use Rattle.os_ignore.proofs.pattern.read_part.Given as goal

abbrev pub invariant-loop-first : goal.invariant-loop-first
invariant-loop-first g l = Reads (IsPiece l.folds) l.text l.pieces.items l.left × (length l.left ≤ length l.text)

abbrev pub decreases-loop-first : goal.decreases-loop-first
decreases-loop-first g l = length l.left
