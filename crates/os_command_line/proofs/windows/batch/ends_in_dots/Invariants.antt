use Rattle.wtf8_core.specs.UnitsOf.{units_of}
use Rattle.platform_str.specs.Strings.{bytes}
use Rattle.os_command_line.specs.WindowsBatch.{IsDropped}
use Rattle.os_command_line.proofs.lemmas.WindowsBatch.{IsLeft}
use Rattle.os_command_line.proofs.windows.batch.ends_in_dots.Given as goal

abbrev pub invariant-loop-unit : goal.invariant-loop-unit
invariant-loop-unit l = IsLeft (IsDropped (units_of (bytes l.path))) (units_of (bytes l.path)) l.first l.dots l.unit-iterator
