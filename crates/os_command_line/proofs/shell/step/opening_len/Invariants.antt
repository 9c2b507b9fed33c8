use Rattle.std.proofs.Common.{◌≡◌, ◌+◌, ◌≤◌, length}
use Rattle.os_command_line.specs.Shell.{begins_quote}
use Rattle.os_command_line.specs.ShellReader.{opening_len}
use Rattle.os_command_line.proofs.shell.step.opening_len.Given as goal

abbrev pub invariant-loop-joined : goal.invariant-loop-joined
invariant-loop-joined l = (begins_quote l.after ≡ begins_quote l.rest) × (opening_len l.after + length l.rest ≡ opening_len l.rest + length l.after)

abbrev pub decreases-loop-joined : goal.decreases-loop-joined
decreases-loop-joined l = length l.rest
