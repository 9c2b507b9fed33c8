use Rattle.std.proofs.Common.{length}
use Rattle.list_programs.specs.Arguments.{HasOption}
use Rattle.names_commands.specs.Command.{Fits}
use Rattle.names_commands.specs.declared.option.NamesOption.{NamesOption}
use Rattle.names_commands.proofs.fitting.first_misplaced.Given as goal

-- the command takes each option of those that aren't left, and what is left was given
abbrev pub invariant-loop-left : goal.invariant-loop-left
invariant-loop-left l = (Fits l.command l.left → Fits l.command l.given) × ((it : NamesOption) → HasOption it l.left → HasOption it l.given)

abbrev pub decreases-loop-left : goal.decreases-loop-left
decreases-loop-left l = length l.left
