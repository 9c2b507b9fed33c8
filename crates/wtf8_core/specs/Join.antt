-- Strings joined (WTF-8: concatenation).
use Rattle.std.specs.Prelude.{◌≡◌, ℕ, List, ◌++◌}
use Rattle.wtf8_core.specs.{Surrogate.IsHigh, Surrogate.IsLow, Surrogate.paired, CodePoint.encode}

-- w is the join of a and b: the string whose units are those of both, one after the other
abbrev pub IsJoin : (List ℕ → Type 0) → (List ℕ → List ℕ) → List ℕ → List ℕ → List ℕ → Type 0
IsJoin well_formed units a b w = well_formed w × (units w ≡ units a ++ units b)

-- a ends with a high surrogate, b begins with a low one, and c is the code point of this pair (RFC 2781, section 2.2)
pub record IsPairBetween (a b : List ℕ) (c : ℕ) : Type 0 where
  pub prefix : List ℕ
  pub high : ℕ
  pub low : ℕ
  pub rest : List ℕ
  pub is_high : IsHigh high
  pub is_low : IsLow low
  pub ends : a ≡ prefix ++ encode high
  pub begins : b ≡ encode low ++ rest
  pub pair : c ≡ paired high low
