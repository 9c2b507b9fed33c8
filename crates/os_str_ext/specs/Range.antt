-- Which ranges of indices fit in a string, and the units before, in and after them.
use Rattle.std.specs.Prelude.{◌≡◌, ◌≤◌, ◌++◌, ℕ, List, length, take, drop}
use Rattle.wtf8_core.specs.Boundary.{IsBoundary}

-- the bytes of s from index i to index j are a part that may be cut out
pub record FitsIn (s : List ℕ) (i j : ℕ) : Type 0 where
  pub ordered : i ≤ j
  pub within : j ≤ length s
  pub start : IsBoundary s i
  pub end : IsBoundary s j

-- the units of s are those before index i, those of `part`, and those from index j on, one after the other
abbrev pub IsPartInUnits : (List ℕ → List ℕ) → List ℕ → ℕ → ℕ → List ℕ → Type 0
IsPartInUnits units s i j part = units s ≡ units (take i s) ++ (units part ++ units (drop j s))
