use Rattle.std.proofs.Common.{◌≡◌, length}
use Rattle.list_programs.specs.Arguments.{operands_of}
use Rattle.list_programs.proofs.arguments.next_operand.Given as goal

-- the operands are those that are left
abbrev pub invariant-loop-left : goal.invariant-loop-left
invariant-loop-left g l = operands_of l.given ≡ operands_of l.left

abbrev pub decreases-loop-left : goal.decreases-loop-left
decreases-loop-left g l = length l.left
