use Rattle.wtf8_core.proofs.Common.{◌-◌, ◌≤◌, length, KeepsPattern}
use Rattle.wtf8_core.proofs.vectors.scan.scan_blocks.Given as goal

abbrev pub invariant-loop-end : goal.invariant-loop-end
invariant-loop-end l = (4 ≤ l.end) × (l.end ≤ length l.bytes) × KeepsPattern l.encoding l.bytes l.end

abbrev pub decreases-loop-end : goal.decreases-loop-end
decreases-loop-end l = length l.bytes - l.end
