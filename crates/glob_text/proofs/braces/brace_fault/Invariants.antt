use Rattle.std.proofs.Common.{◌≤◌, ◌+◌, length, map}
use Rattle.glob_text.specs.Marks.{mark_of}
use Rattle.glob_text.proofs.lemmas.Braces.{Looked}
use Rattle.glob_text.proofs.braces.brace_fault.Given as goal

abbrev pub invariant-loop-mark : goal.invariant-loop-mark
invariant-loop-mark g l = Looked (map mark_of l.marks) (map mark_of l.left) l.depth l.outermost × (l.depth + length l.left ≤ length l.marks)

abbrev pub decreases-loop-mark : goal.decreases-loop-mark
decreases-loop-mark g l = length l.left
