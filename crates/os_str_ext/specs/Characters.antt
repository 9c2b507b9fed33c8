-- The first and the last character of a string, each with the rest of the string (std's `str` has the first by `chars`).
use Rattle.std.specs.Prelude.{◌≡◌, ◌-◌, ◌≤◌, ℕ, List, ◌++◌, length, Option, MatchOption}
use Rattle.std.specs.Char.{IsScalar, encode_utf8}
use Rattle.wtf8_core.specs.{Character.WholeCharacter, CodePoint.encode, Covered.StartsWithNoCharacter}

-- no whole character ends where s ends
abbrev pub EndsUncovered : List ℕ → Type 0
EndsUncovered s = (i : ℕ) → ¬ (WholeCharacter s i (length s))

-- r is the first character of s and the rest, or None if s doesn't start with a whole character; `of` gives the bytes of the rest
abbrev pub SplitsFirstChar : {T : Type 0} → (T → List ℕ) → List ℕ → Option (ℕ × T) → Type 0
SplitsFirstChar of s r = MatchOption r (StartsWithNoCharacter s) (λ parts. s ≡ encode_utf8 parts.0 ++ of parts.1)

-- r is the last character of s and the rest, or None if s doesn't end with a whole character
abbrev pub SplitsLastChar : {T : Type 0} → (T → List ℕ) → List ℕ → Option (ℕ × T) → Type 0
SplitsLastChar of s r = MatchOption r (EndsUncovered s) (λ parts. s ≡ of parts.1 ++ encode_utf8 parts.0)

-- r is the length of the whole character that ends in s at i, or None if none ends there
abbrev pub IsCharacterBefore : List ℕ → ℕ → Option ℕ → Type 0
IsCharacterBefore s i r = MatchOption r ((k : ℕ) → ¬ (WholeCharacter s k i)) (λ n. (n ≤ i) × WholeCharacter s (i - n) i)

-- the bytes are those of one character
pub record IsOneCharacter (s : List ℕ) : Type 0 where
  pub char : ℕ
  pub scalar : IsScalar char
  pub is : s ≡ encode char
