use Rattle.wtf8_core.proofs.Common.{◌≤◌}
use Rattle.wtf8_core.proofs.vectors.scan.start_before.Given as goal

abbrev pub invariant-loop-at : goal.invariant-loop-at
invariant-loop-at l = l.at ≤ l.end

abbrev pub decreases-loop-at : goal.decreases-loop-at
decreases-loop-at l = l.at
