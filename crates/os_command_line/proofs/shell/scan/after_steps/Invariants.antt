use Rattle.std.proofs.Common.{length}
use Rattle.os_command_line.proofs.lemmas.ShellScan.{LeadsOn}
use Rattle.os_command_line.proofs.shell.scan.after_steps.Given as goal

abbrev pub invariant-loop-byte : goal.invariant-loop-byte
invariant-loop-byte l = LeadsOn l.language l.text l.state l.from l.rest

abbrev pub decreases-loop-byte : goal.decreases-loop-byte
decreases-loop-byte l = length l.rest
