use Rattle.wtf8_core.specs.UnitsOf.{units_of}
use Rattle.platform_str.specs.Strings.{bytes}
use Rattle.os_command_line.specs.WindowsBatch.{IsDropped}
use Rattle.os_command_line.proofs.lemmas.WindowsBatch.{IsRest}
use Rattle.os_command_line.proofs.windows.batch.ends_in_batch.Given as goal

abbrev pub invariant-loop-unit : goal.invariant-loop-unit
invariant-loop-unit l = IsRest (IsDropped (units_of (bytes l.program))) (units_of (bytes l.program)) l.is_batch l.dot l.first l.second l.unit-iterator
