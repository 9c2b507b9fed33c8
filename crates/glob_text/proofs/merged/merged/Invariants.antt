use Rattle.std.proofs.Common.{length, map}
use Rattle.glob_text.specs.Marks.{mark_of}
use Rattle.glob_text.specs.Merged.{IsMergedMark}
use Rattle.wildcards.specs.Items.{Reads}
use Rattle.glob_text.proofs.merged.merged.Given as goal

abbrev pub invariant-loop-first : goal.invariant-loop-first
invariant-loop-first g l = Reads (IsMergedMark l.separators) (map mark_of l.marks) (map mark_of l.merged.items) (map mark_of l.left)

abbrev pub decreases-loop-first : goal.decreases-loop-first
decreases-loop-first g l = length l.left
