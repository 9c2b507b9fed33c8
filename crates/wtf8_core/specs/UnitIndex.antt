-- The byte indices of unit indices, for any rule for well-formed bytes and any units of bytes (this project's own).
use Rattle.std.specs.Prelude.{◌≡◌, ℕ, List, ◌++◌, length, Option, MatchOption}
use Rattle.wtf8_core.specs.Occurrence.{OccursNowhere}

-- j is the byte index of unit index i in s: the well-formed prefix of s that has i units has j bytes
pub record IsByteIndex (well_formed : List ℕ → Type 0) (units : List ℕ → List ℕ) (s : List ℕ) (i j : ℕ) : Type 0 where
  pub prefix : List ℕ
  pub rest : List ℕ
  pub joined : s ≡ prefix ++ rest
  pub formed : well_formed prefix
  pub many : length (units prefix) ≡ i
  pub index : length prefix ≡ j

-- Is names an index of the units of p in the units of s, and j is the byte index of it
pub record IsUnitIndexOf (Is : List ℕ → List ℕ → ℕ → Type 0) (well_formed : List ℕ → Type 0) (units : List ℕ → List ℕ) (p s : List ℕ) (j : ℕ) : Type 0 where
  pub unit_index : ℕ
  pub is : Is (units p) (units s) unit_index
  pub byte_index : IsByteIndex well_formed units s unit_index j

-- r is that byte index, None if the units of p don't occur in the units of s
abbrev pub FindsInUnits : (List ℕ → List ℕ → ℕ → Type 0) → (List ℕ → Type 0) → (List ℕ → List ℕ) → List ℕ → List ℕ → Option ℕ → Type 0
FindsInUnits Is well_formed units p s r = MatchOption r (OccursNowhere (units p) (units s)) (λ j. IsUnitIndexOf Is well_formed units p s j)
