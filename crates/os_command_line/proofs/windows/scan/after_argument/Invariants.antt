use Rattle.std.proofs.Common.{length}
use Rattle.os_command_line.proofs.lemmas.WindowsScan.{IsSoFar}
use Rattle.os_command_line.proofs.windows.scan.after_argument.Given as goal

abbrev pub invariant-loop-after : goal.invariant-loop-after
invariant-loop-after l = IsSoFar l.text l.inside l.is_bare l.cut.0.now l.cut.1.now

abbrev pub decreases-loop-after : goal.decreases-loop-after
decreases-loop-after l = length l.cut.1.now
