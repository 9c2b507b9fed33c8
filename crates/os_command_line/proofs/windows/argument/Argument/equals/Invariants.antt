use Rattle.std.proofs.Common.{◌≡◌, ◌++◌, List, ℕ}
use Rattle.wtf8_core.specs.UnitsOf.{units_of}
use Rattle.platform_str.specs.Strings.{bytes}
use Rattle.os_command_line.specs.WindowsViews.{argument_units}
use Rattle.os_command_line.proofs.windows.argument.Argument.equals.Given as goal

abbrev pub invariant-loop-wanted : goal.invariant-loop-wanted
invariant-loop-wanted l = (prefix : List ℕ) × (argument_units l.fn.self ≡ prefix ++ l.units) × (units_of (bytes l.string) ≡ prefix ++ l.wanted-iterator)
