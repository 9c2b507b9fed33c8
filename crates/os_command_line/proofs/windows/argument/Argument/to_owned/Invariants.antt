use Rattle.std.proofs.Common.{◌≡◌, ◌++◌}
use Rattle.os_command_line.specs.WindowsViews.{argument_units}
use Rattle.os_command_line.proofs.windows.argument.Argument.to_owned.Given as goal

abbrev pub invariant-loop-unit : goal.invariant-loop-unit
invariant-loop-unit g l = l.units.items ++ l.unit-iterator ≡ argument_units l.fn.self
