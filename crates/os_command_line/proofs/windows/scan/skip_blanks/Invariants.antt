use Rattle.std.proofs.Common.{◌≡◌, ◌++◌, List, ℕ, length}
use Rattle.std.specs.List.{AllByRecursion}
use Rattle.os_command_line.specs.Windows.{IsBlank}
use Rattle.os_command_line.proofs.windows.scan.skip_blanks.Given as goal

abbrev pub invariant-loop-byte : goal.invariant-loop-byte
invariant-loop-byte l = (blanks : List ℕ) × AllByRecursion IsBlank blanks × (l.line ≡ blanks ++ l.rest)

abbrev pub decreases-loop-byte : goal.decreases-loop-byte
decreases-loop-byte l = length l.rest
