-- What units begin with: a pair, or none (RFC 2781, section 2.2).
use Rattle.std.specs.Prelude.{◌≡◌, ℕ, List, ◌∷◌}
use Rattle.wtf8_core.specs.Surrogate.{IsHigh, IsLow, paired}

-- the units begin with the pair of the code point c, or with none
pub record BeginsPair (us : List ℕ) (c : ℕ) (rest : List ℕ) : Type 0 where
  pub high : ℕ
  pub low : ℕ
  pub is_high : IsHigh high
  pub is_low : IsLow low
  pub units_are : us ≡ high ∷ low ∷ rest
  pub value : c ≡ paired high low

abbrev pub BeginsNoPair : List ℕ → Type 0
BeginsNoPair us = (high low : ℕ) (rest : List ℕ) → us ≡ high ∷ low ∷ rest → IsHigh high → IsLow low → ⊥
