use Rattle.std.proofs.Common.{true, map}
use Rattle.glob_text.specs.Marks.{mark_of}
use Rattle.glob_text.specs.Folded.{AreCased}
use Rattle.glob_text.proofs.fold.cased.Given as goal

abbrev pub invariant-loop-mark : goal.invariant-loop-mark
invariant-loop-mark g l = AreCased true (map mark_of l.yielded) (map mark_of l.folded.items)
