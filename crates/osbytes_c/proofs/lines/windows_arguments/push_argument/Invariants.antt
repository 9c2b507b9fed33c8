use Rattle.os_command_line.specs.WindowsViews.{argument_units}
use Rattle.platform_str.proofs.lemmas.Pushing.{PushesRest}
use Rattle.osbytes_c.proofs.lines.windows_arguments.push_argument.Given as goal

-- the units so far
abbrev pub invariant-loop-unit : goal.invariant-loop-unit
invariant-loop-unit l = PushesRest l.fn.out l.count l.out l.len l.unit-iterator (argument_units l.argument)
