use Rattle.std.proofs.Common.{◌↔◌, length}
use Rattle.list_programs.specs.Arguments.{HasOption}
use Rattle.list_programs.proofs.arguments.has.Given as goal

-- the option is given if it is among those that are left
abbrev pub invariant-loop-left : goal.invariant-loop-left
invariant-loop-left g l = HasOption l.option l.given ↔ HasOption l.option l.left

abbrev pub decreases-loop-left : goal.decreases-loop-left
decreases-loop-left g l = length l.left
