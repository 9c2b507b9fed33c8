use Rattle.platform_str.proofs.Common.{◌≡◌, ◌++◌, ◌+◌, ◌≤◌, ◌<◌, List, ℕ, length, units_of}
use Rattle.wtf8_core.specs.Truncated.{IsTruncated}
use Rattle.platform_str.specs.ToWide.{units_after_first}
use Rattle.platform_str.proofs.wide_buffer.write_units.Given as goal

abbrev pub invariant-loop-rest : goal.invariant-loop-rest
invariant-loop-rest l =
    (0 < length l.rest) × (l.count + length l.rest ≤ 1 + length l.string)
    × ((done : List ℕ) × IsTruncated done l.fn.buffer l.buffer l.count × (done ++ units_after_first l.rest ≡ units_of l.string))

abbrev pub decreases-loop-rest : goal.decreases-loop-rest
decreases-loop-rest l = length l.rest
