use Rattle.std.proofs.Common.{◌≡◌, ◌++◌, ◌∷◌, List, ℕ}
use Rattle.wtf8_core.specs.UnitsOf.{units_of}
use Rattle.platform_str.specs.Strings.{bytes}
use Rattle.os_command_line.proofs.windows.writing.push_name.Given as goal

abbrev pub invariant-loop-unit : goal.invariant-loop-unit
invariant-loop-unit g l = (taken : List ℕ) × (units_of (bytes l.program) ≡ taken ++ l.unit-iterator) × (l.line.items ≡ l.fn.line.items ++ 0x22 ∷ taken)
