use Rattle.std.proofs.Common.{◌-◌, length, map, drop}
use Rattle.names_commands.specs.Ignoring.{text_of}
use Rattle.names_commands.proofs.lemmas.Placed.{PassesPlaced}
use Rattle.names_commands.proofs.ignoring.first_outside.Given as goal

abbrev pub invariant-loop-value : goal.invariant-loop-value
invariant-loop-value l = PassesPlaced (map text_of l.values) (drop l.passed (map text_of l.values))

abbrev pub decreases-loop-value : goal.decreases-loop-value
decreases-loop-value l = length l.values - l.passed
