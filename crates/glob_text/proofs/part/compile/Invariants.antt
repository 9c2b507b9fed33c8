use Rattle.std.proofs.Common.{Some, map}
use Rattle.glob_text.specs.Marks.{mark_of}
use Rattle.glob_text.specs.Chosen.{marks_at}
use Rattle.glob_text.specs.Parts.{NextGroup}
use Rattle.glob_text.specs.PartSteps.{rest_of, rest_size}
use Rattle.wildcards.specs.Items.{ReadsLists}
use Rattle.glob_text.proofs.part.compile.Given as goal

abbrev pub invariant-loop-left : goal.invariant-loop-left
invariant-loop-left g l = ReadsLists (NextGroup l.separators) (Some (marks_at (map mark_of l.marks) l.chosen)) l.pattern.items (rest_of (map mark_of l.marks) l.left)

abbrev pub decreases-loop-left : goal.decreases-loop-left
decreases-loop-left g l = rest_size l.left
