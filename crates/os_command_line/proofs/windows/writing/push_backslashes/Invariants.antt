use Rattle.std.proofs.Common.{◌≡◌, ◌++◌}
use Rattle.os_command_line.specs.Windows.{backslashes}
use Rattle.os_command_line.proofs.windows.writing.push_backslashes.Given as goal

abbrev pub invariant-loop : goal.invariant-loop
invariant-loop g l = l.line.items ≡ l.fn.line.items ++ backslashes l.counter
