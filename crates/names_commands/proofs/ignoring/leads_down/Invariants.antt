use Rattle.std.proofs.Common.{◌↔◌, length}
use Rattle.names_commands.specs.Ignoring.{LeadsDown}
use Rattle.names_commands.proofs.ignoring.leads_down.Given as goal

-- the path leads down where what is left does
abbrev pub invariant-loop-first : goal.invariant-loop-first
invariant-loop-first l = LeadsDown l.path ↔ LeadsDown l.left

abbrev pub decreases-loop-first : goal.decreases-loop-first
decreases-loop-first l = length l.left
