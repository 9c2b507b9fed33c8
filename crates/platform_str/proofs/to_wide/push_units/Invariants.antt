use Rattle.platform_str.proofs.Common.{◌≡◌, ◌++◌, ◌+◌, ◌≤◌, ◌<◌, length, units_of, vec_len, vec_capacity}
use Rattle.platform_str.specs.ToWide.{units_after_first}
use Rattle.platform_str.proofs.to_wide.push_units.Given as goal

abbrev pub invariant-loop-rest : goal.invariant-loop-rest
invariant-loop-rest g l =
    (0 < length l.rest) × (l.units.items ++ units_after_first l.rest ≡ l.fn.units.items ++ units_of l.string)
    × (vec_capacity l.fn.units ≤ vec_capacity l.units) × (vec_len l.units + length l.rest ≤ 1 + vec_len l.fn.units + length l.string)

abbrev pub decreases-loop-rest : goal.decreases-loop-rest
decreases-loop-rest g l = length l.rest
