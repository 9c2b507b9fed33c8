use Rattle.std.proofs.Common.{length}
use Rattle.platform_str.proofs.lemmas.Taking.{TakesRest}
use Rattle.os_command_line.specs.ShellWriting.{single_quoted}
use Rattle.os_command_line.proofs.lemmas.ShellWritten.{inner_text}
use Rattle.os_command_line.proofs.shell.write_word.write_single.Given as goal

abbrev pub invariant-loop-prefix : goal.invariant-loop-prefix
invariant-loop-prefix g l = g.S.Sink.pieces.accepts l.rest × TakesRest g.S.Sink.rules l.fn.sink l.sink (inner_text l.rest) (single_quoted l.fn.bytes)

abbrev pub decreases-loop-prefix : goal.decreases-loop-prefix
decreases-loop-prefix g l = length l.rest
