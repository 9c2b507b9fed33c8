use Rattle.std.proofs.Common.{◌≡◌, ◌++◌, ◌+◌, ◌≤◌, false, List, ℕ, length}
use Rattle.std.specs.List.{AllByRecursion}
use Rattle.wtf8_core.specs.UnitsOf.{units_of}
use Rattle.platform_str.specs.Strings.{bytes}
use Rattle.os_command_line.specs.Windows.{IsBlank}
use Rattle.os_command_line.specs.WindowsWriting.{IsWritten}
use Rattle.os_command_line.proofs.windows.writing.push_units.Given as goal

abbrev pub invariant-loop-unit : goal.invariant-loop-unit
invariant-loop-unit g l =
    (taken : List ℕ) × (units_of (bytes l.argument) ≡ taken ++ l.unit-iterator) × IsWritten l.inside l.fn.line.items l.line.items l.run taken × (l.inside ≡ false → AllByRecursion (λ u. ¬ (IsBlank u)) l.unit-iterator) × (l.run + length l.unit-iterator ≤ length (units_of (bytes l.argument)))
