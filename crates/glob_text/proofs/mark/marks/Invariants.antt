use Rattle.std.proofs.Common.{length, map}
use Rattle.glob_text.specs.Marks.{IsMark, mark_of}
use Rattle.wildcards.specs.Items.{Reads}
use Rattle.glob_text.proofs.mark.marks.Given as goal

abbrev pub invariant-loop-first : goal.invariant-loop-first
invariant-loop-first g l = Reads (IsMark l.syntax) l.text (map mark_of l.marks.items) l.left

abbrev pub decreases-loop-first : goal.decreases-loop-first
decreases-loop-first g l = length l.left
