use Rattle.std.proofs.Common.{drop}
use Rattle.std.specs.List.{flat_map}
use Rattle.platform_str.proofs.lemmas.Taking.{TakesRest}
use Rattle.os_command_line.specs.ShellWriting.{octal_text}
use Rattle.os_command_line.proofs.shell.write_word.write_octals.Given as goal

abbrev pub invariant-loop-byte : goal.invariant-loop-byte
invariant-loop-byte g l = TakesRest g.S.Sink.rules l.fn.sink l.sink (flat_map octal_text (drop l.byte-index l.bytes)) (flat_map octal_text l.fn.bytes)
