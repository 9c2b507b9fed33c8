use Rattle.std.proofs.Common.{length}
use Rattle.os_command_line.proofs.lemmas.WindowsScan.{IsNameSoFar}
use Rattle.os_command_line.proofs.windows.scan.after_name.Given as goal

abbrev pub invariant-loop-after : goal.invariant-loop-after
invariant-loop-after l = IsNameSoFar l.line l.inside l.cut.1.now

abbrev pub decreases-loop-after : goal.decreases-loop-after
decreases-loop-after l = length l.cut.1.now
