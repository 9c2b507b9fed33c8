use Rattle.std.proofs.Common.{◌≡◌, ◌+◌, length}
use Rattle.list_programs.specs.Arguments.{operands_of}
use Rattle.paths_commands.proofs.command.are_more.Given as goal

-- as many operands have been passed as there is less room
abbrev pub invariant-loop-left : goal.invariant-loop-left
invariant-loop-left l = l.count + length (operands_of l.left) ≡ l.room + length (operands_of l.given)

abbrev pub decreases-loop-left : goal.decreases-loop-left
decreases-loop-left l = length l.left
