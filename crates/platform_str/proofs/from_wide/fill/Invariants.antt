use Rattle.platform_str.proofs.Common.{◌≡◌, ◌++◌, ◌≤◌, ◌-◌, length, take, HasUnits}
use Rattle.platform_str.proofs.from_wide.fill.Given as goal

abbrev pub invariant-loop-end : goal.invariant-loop-end
invariant-loop-end l = HasUnits (take l.end l.bytes ++ l.left) l.units × (l.end ≤ length l.bytes) × (length l.bytes ≡ length l.fn.bytes)

abbrev pub decreases-loop-end : goal.decreases-loop-end
decreases-loop-end l = length l.bytes - l.end
