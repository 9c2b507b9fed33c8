use Rattle.std.proofs.Common.{◌≡◌, zero, length}
use Rattle.os_command_line.specs.ShellReader.{meant}
use Rattle.os_command_line.proofs.shell.word_bytes.next_marked.Given as goal

abbrev pub invariant-loop-byte : goal.invariant-loop-byte
invariant-loop-byte l = meant l.language l.fn.state zero l.text ≡ meant l.language l.state zero l.rest

abbrev pub decreases-loop-byte : goal.decreases-loop-byte
decreases-loop-byte l = length l.rest
