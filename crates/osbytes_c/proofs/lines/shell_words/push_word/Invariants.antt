use Rattle.os_command_line.specs.ShellViews.{word_bytes}
use Rattle.platform_str.proofs.lemmas.Pushing.{PushesRest}
use Rattle.osbytes_c.proofs.lines.shell_words.push_word.Given as goal

-- the bytes so far
abbrev pub invariant-loop-byte : goal.invariant-loop-byte
invariant-loop-byte l = PushesRest l.fn.out l.count l.out l.len l.byte-iterator (word_bytes l.word)
