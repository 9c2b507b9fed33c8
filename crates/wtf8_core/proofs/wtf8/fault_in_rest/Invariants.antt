use Rattle.wtf8_core.proofs.Common.{length, IsReadUpTo}
use Rattle.wtf8_core.proofs.wtf8.fault_in_rest.Given as goal

abbrev pub invariant-loop-item : goal.invariant-loop-item
invariant-loop-item l = IsReadUpTo l.bytes l.high l.left

abbrev pub decreases-loop-item : goal.decreases-loop-item
decreases-loop-item l = length l.left
