use Rattle.platform_str.proofs.lemmas.Pushing.{PushesRest}
use Rattle.os_command_line.specs.ShellViews.{word_bytes}
use Rattle.os_command_line.proofs.shell.word.Word.write_to.Given as goal

abbrev pub invariant-loop-byte : goal.invariant-loop-byte
invariant-loop-byte l = PushesRest l.fn.buffer 0 l.buffer l.count l.byte-iterator (word_bytes l.fn.self)
