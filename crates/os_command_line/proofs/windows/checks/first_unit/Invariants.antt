use Rattle.wtf8_core.specs.UnitsOf.{units_of}
use Rattle.platform_str.specs.Strings.{bytes}
use Rattle.os_command_line.proofs.lemmas.WindowsWriting.{IsPassed}
use Rattle.os_command_line.proofs.windows.checks.first_unit.Given as goal

abbrev pub invariant-loop-unit : goal.invariant-loop-unit
invariant-loop-unit l = IsPassed l.wanted (units_of (bytes l.string)) l.unit-iterator l.index
