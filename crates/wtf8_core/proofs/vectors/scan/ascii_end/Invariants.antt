use Rattle.wtf8_core.proofs.Common.{◌-◌, ◌≤◌, length, KeepsPattern, IsEncodedPrefix}
use Rattle.wtf8_core.specs.declared.vectors.Encoding.{Encoding}
use Rattle.wtf8_core.proofs.vectors.scan.ascii_end.Given as goal

abbrev pub invariant-loop-end : goal.invariant-loop-end
invariant-loop-end l = (l.at ≤ l.end) × (l.end ≤ length l.bytes) × ((e : Encoding) → KeepsPattern e l.bytes l.at → IsEncodedPrefix e l.bytes l.end)

abbrev pub decreases-loop-end : goal.decreases-loop-end
decreases-loop-end l = length l.bytes - l.end
