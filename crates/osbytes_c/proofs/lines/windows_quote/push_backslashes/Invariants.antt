use Rattle.os_command_line.specs.Windows.{backslashes}
use Rattle.platform_str.specs.BufferSink.{Pushes}
use Rattle.osbytes_c.proofs.lines.windows_quote.push_backslashes.Given as goal

-- so many backslashes so far
abbrev pub invariant-loop : goal.invariant-loop
invariant-loop l = Pushes (backslashes l.counter) l.fn.out l.count l.out l.len
