use Rattle.std.proofs.Common.{◌≡◌, ◌++◌}
use Rattle.os_command_line.specs.ShellViews.{word_bytes}
use Rattle.os_command_line.proofs.shell.word.Word.to_owned.Given as goal

abbrev pub invariant-loop-byte : goal.invariant-loop-byte
invariant-loop-byte g l = l.vec.items ++ l.byte-iterator ≡ word_bytes l.fn.self
