-- Where a string may be cut (std's `OsStr::slice_encoded_bytes`).
use Rattle.std.specs.Prelude.{◌≡◌, ◌⊎◌, ℕ, List, length}
use Rattle.wtf8_core.specs.Character.{WholeCharacter}

-- s may be cut at i: at its start, at its end, and where a whole character starts or ends
pub record IsBoundary (s : List ℕ) (i : ℕ) : Type 0 where
  pub is : (i ≡ 0) ⊎ ((i ≡ length s) ⊎ (((j : ℕ) × WholeCharacter s i j) ⊎ ((j : ℕ) × WholeCharacter s j i)))
