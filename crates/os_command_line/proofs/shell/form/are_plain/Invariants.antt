use Rattle.std.proofs.Common.{◌≡◌, take}
use Rattle.os_command_line.specs.ShellWriting.{are_plain}
use Rattle.os_command_line.proofs.shell.form.are_plain.Given as goal

abbrev pub invariant-loop-byte : goal.invariant-loop-byte
invariant-loop-byte l = l.are_plain ≡ are_plain (take l.byte-index l.name)
