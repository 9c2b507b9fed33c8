-- The pairs among units, which a count of their bytes takes off.
use Rattle.std.specs.Prelude.{ℕ, ◌+◌, if◌then◌else◌, List, [], ◌∷◌}
use Rattle.wtf8_core.specs.Surrogate.{is_pair}

-- how many pairs of a high and a low surrogate there are among units
abbrev pub begins_pair : ℕ → List ℕ → ℕ
begins_pair u [] = 0
begins_pair u (v ∷ us) = if is_pair u v then 1 else 0

abbrev pub pairs : List ℕ → ℕ
pairs [] = 0
pairs (u ∷ us) = begins_pair u us + pairs us
