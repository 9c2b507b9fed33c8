use Rattle.std.proofs.Common.{ℕ, List, ◌++◌, map, length}
use Rattle.list_programs.specs.Arguments.{AreValues, text_of}
use Rattle.list_programs.proofs.arguments.values.Given as goal

-- the values so far and those that are left are all values
abbrev pub invariant-loop-left : goal.invariant-loop-left
invariant-loop-left g l = (more : List (List ℕ)) → AreValues l.option l.left more → AreValues l.option l.given (map text_of l.values.items ++ more)

abbrev pub decreases-loop-left : goal.decreases-loop-left
decreases-loop-left g l = length l.left
