-- Whole characters: the forms before and after which std's `OsStr::slice_encoded_bytes` allows a cut (a valid UTF-8 substring that isn't empty).
use Rattle.std.specs.Prelude.{◌≡◌, ℕ, ◌+◌, List, length, take, Option, MatchOption}
use Rattle.std.specs.Char.{IsScalar, encode_utf8}
use Rattle.wtf8_core.specs.{CodePoint.encode, Occurrence.OccursAt}

-- the bytes of s from index i up to index j are a whole character: the form of a scalar value (a code point that is no surrogate)
pub record WholeCharacter (s : List ℕ) (i j : ℕ) : Type 0 where
  pub char : ℕ
  pub scalar : IsScalar char
  pub occurs : OccursAt (encode char) s i
  pub end : j ≡ i + length (encode char)

-- r is the length of the whole character that starts in s at i, None if none starts there
abbrev pub IsCharacterAt : List ℕ → ℕ → Option ℕ → Type 0
IsCharacterAt s i r = MatchOption r ((j : ℕ) → ¬ (WholeCharacter s i j)) (λ n. WholeCharacter s i (i + n))

-- c is the character with which s begins, and has n bytes
abbrev pub IsFirstChar : List ℕ → ℕ → ℕ → Type 0
IsFirstChar s c n = WholeCharacter s 0 (0 + n) × (take n s ≡ encode_utf8 c)
