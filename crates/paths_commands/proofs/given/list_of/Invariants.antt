use Rattle.std.proofs.Common.{◌≡◌, ◌++◌, length}
use Rattle.list_programs.specs.Arguments.{operands_of}
use Rattle.paths_commands.specs.Program.{list_text}
use Rattle.paths_commands.proofs.given.list_of.Given as goal

-- the list of the paths that are left comes after the text
abbrev pub invariant-loop-left : goal.invariant-loop-left
invariant-loop-left g l = list_text (operands_of l.paths) ≡ l.text.items ++ list_text (operands_of l.left)

abbrev pub decreases-loop-left : goal.decreases-loop-left
decreases-loop-left g l = length l.left
