use Rattle.os_str_ext.proofs.Common.{length, ◌-◌, IsUncoveredUpTo}
use Rattle.os_str_ext.proofs.chunks.first_text.Given as goal

abbrev pub invariant-loop-at : goal.invariant-loop-at
invariant-loop-at g l = IsUncoveredUpTo l.bytes l.at

abbrev pub decreases-loop-at : goal.decreases-loop-at
decreases-loop-at g l = length l.bytes - l.at
