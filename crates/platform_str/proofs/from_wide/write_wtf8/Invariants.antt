use Rattle.platform_str.proofs.Common.{◌≡◌, ◌++◌, ◌+◌, ◌<◌, ◌∷◌, length, take}
use Rattle.platform_str.specs.FromWide.{bytes_after_first}
use Rattle.platform_str.proofs.from_wide.write_wtf8.Given as goal

abbrev pub invariant-loop-rest : goal.invariant-loop-rest
invariant-loop-rest l =
    (0 < length l.rest)
    × (take l.end l.bytes ++ bytes_after_first l.rest ≡ bytes_after_first (0 ∷ l.units))
    × (l.end + length (bytes_after_first l.rest) ≡ length l.bytes)

abbrev pub decreases-loop-rest : goal.decreases-loop-rest
decreases-loop-rest l = length l.rest
