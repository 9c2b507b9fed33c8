-- Which bytes are inside whole characters, and which aren't (this project's own words for `OsStr`'s valid UTF-8 substrings).
use Rattle.std.specs.Prelude.{ℕ, ◌<◌, ◌≤◌, List}
use Rattle.wtf8_core.specs.Character.{WholeCharacter}

-- the byte of s at index k is inside a whole character
pub record IsCovered (s : List ℕ) (k : ℕ) : Type 0 where
  pub start : ℕ
  pub end : ℕ
  pub whole : WholeCharacter s start end
  pub from : start ≤ k
  pub below : k < end

-- no whole character extends across index i
abbrev pub CrossesNoCharacter : List ℕ → ℕ → Type 0
CrossesNoCharacter s i = (a : ℕ) → (b : ℕ) → WholeCharacter s a b → a < i → i < b → ⊥

-- s begins with no whole character
abbrev pub StartsWithNoCharacter : List ℕ → Type 0
StartsWithNoCharacter s = (j : ℕ) → ¬ (WholeCharacter s 0 j)

-- there is no whole character in s
abbrev pub HasNoCharacter : List ℕ → Type 0
HasNoCharacter s = (i : ℕ) → (j : ℕ) → ¬ (WholeCharacter s i j)
