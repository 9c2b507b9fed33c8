use Rattle.std.proofs.Common.{◌≡◌, ◌++◌, false, List, ℕ}
use Rattle.std.specs.List.{AllByRecursion}
use Rattle.wtf8_core.specs.UnitsOf.{units_of}
use Rattle.platform_str.specs.Strings.{bytes}
use Rattle.os_command_line.specs.Windows.{IsBlank}
use Rattle.osbytes_c.specs.ArgumentWriting.{PushesUnits}
use Rattle.osbytes_c.proofs.lines.windows_quote.push_units.Given as goal

-- the units so far
abbrev pub invariant-loop-unit : goal.invariant-loop-unit
invariant-loop-unit l = (taken : List ℕ) × (units_of (bytes l.argument) ≡ taken ++ l.unit-iterator) × PushesUnits l.inside taken l.fn.out l.count l.out l.len l.run × (l.inside ≡ false → AllByRecursion (λ u. ¬ (IsBlank u)) l.unit-iterator)
