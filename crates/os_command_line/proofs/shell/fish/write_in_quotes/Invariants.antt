use Rattle.std.proofs.Common.{length}
use Rattle.os_command_line.specs.Fish.{fish_quoted}
use Rattle.os_command_line.proofs.lemmas.Fish.{inner_text}
use Rattle.platform_str.proofs.lemmas.Taking.{TakesRest}
use Rattle.os_command_line.proofs.shell.fish.write_in_quotes.Given as goal

abbrev pub invariant-loop-prefix : goal.invariant-loop-prefix
invariant-loop-prefix g l = g.S.Sink.pieces.accepts l.rest × TakesRest g.S.Sink.rules l.fn.sink l.sink (inner_text l.rest) (fish_quoted l.fn.name)

abbrev pub decreases-loop-prefix : goal.decreases-loop-prefix
decreases-loop-prefix g l = length l.rest
