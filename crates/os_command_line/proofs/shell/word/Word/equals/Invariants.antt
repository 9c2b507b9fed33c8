use Rattle.std.proofs.Common.{◌≡◌, ◌++◌, List, ℕ}
use Rattle.platform_str.specs.Strings.{bytes}
use Rattle.os_command_line.specs.ShellViews.{word_bytes}
use Rattle.os_command_line.proofs.shell.word.Word.equals.Given as goal

abbrev pub invariant-loop-byte : goal.invariant-loop-byte
invariant-loop-byte l = (prefix : List ℕ) × (word_bytes l.fn.self ≡ prefix ++ l.byte-iterator) × (bytes l.string ≡ prefix ++ l.rest)
