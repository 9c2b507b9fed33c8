use Rattle.std.proofs.Common.{length, map}
use Rattle.glob_text.specs.Marks.{mark_of}
use Rattle.glob_text.specs.Chosen.{choices_of}
use Rattle.glob_text.proofs.lemmas.Compiled.{CompiledSoFar}
use Rattle.glob_text.proofs.part.compile_each.Given as goal

abbrev pub invariant-loop-choice : goal.invariant-loop-choice
invariant-loop-choice g l = CompiledSoFar l.separators (choices_of (map mark_of l.marks) l.choices) l.compiled.items (choices_of (map mark_of l.marks) l.left)

abbrev pub decreases-loop-choice : goal.decreases-loop-choice
decreases-loop-choice g l = length l.left
