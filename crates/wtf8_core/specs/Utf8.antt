-- The first fault of bytes that aren't UTF-8 (RFC 3629, section 4), and the maximal ill-formed part (a maximal subpart; Unicode, section 3.9, and std's `Utf8Error`).
use Rattle.std.specs.Prelude.{◌≡◌, ◌⊎◌, ℕ, ◌+◌, ◌<◌, ◌≤◌, List, ◌++◌, length, take, drop, Option, Some, None, MatchOption, Result, MatchResult}
use Rattle.std.specs.{Char.IsScalar, Str.IsValidUpTo}
use Rattle.wtf8_core.specs.{CodePoint.encode, Character.WholeCharacter}

-- xs is a prefix of some character's form
pub record IsPrefixOfCharacter (xs : List ℕ) : Type 0 where
  pub char : ℕ
  pub scalar : IsScalar char
  pub rest : List ℕ
  pub is : encode char ≡ xs ++ rest

-- xs is a prefix of some character's form, and not the whole form
pub record IsProperPrefix (xs : List ℕ) : Type 0 where
  pub prefix : IsPrefixOfCharacter xs
  pub proper : 0 < length prefix.rest

-- k is the length of the longest prefix of r with which some character's form begins, or 1 if that is empty; and r as a whole isn't a proper prefix of such a form
pub record IsIllFormed (r : List ℕ) (k : ℕ) : Type 0 where
  pub closed : ¬ (IsProperPrefix r)
  pub some : 0 < k
  pub within : k ≤ length r
  pub prefix : 1 < k → IsPrefixOfCharacter (take k r)
  pub longest : (m : ℕ) → k < m → m ≤ length r → ¬ (IsPrefixOfCharacter (take m r))

-- the maximal ill-formed part at the start of r has n bytes, where r begins with no character
abbrev pub IsIllFormedPart : List ℕ → ℕ → Type 0
IsIllFormedPart r n = (IsProperPrefix r × (n ≡ length r)) ⊎ IsIllFormed r n

-- after the longest prefix that is UTF-8 the bytes end within a character (None), or an ill-formed part of this length begins (Some)
pub record IsUtf8Fault (bytes : List ℕ) (valid_up_to : ℕ) (error_len : Option ℕ) : Type 0 where
  pub valid : IsValidUpTo bytes valid_up_to
  pub part : MatchOption error_len (IsProperPrefix (drop valid_up_to bytes)) (IsIllFormed (drop valid_up_to bytes))

-- the bytes begin with a character of this length (Ok), or with an ill-formed part of this length (Err)
abbrev pub BeginsWith : List ℕ → Result ℕ ℕ → Type 0
BeginsWith bytes first = MatchResult first (λ n. WholeCharacter bytes 0 (0 + n)) (λ n. IsUtf8Fault bytes 0 (Some n))

-- the index after the ill-formed part of a fault
abbrev pub part_end : List ℕ → ℕ → Option ℕ → ℕ
part_end bytes valid_up_to None = length bytes
part_end bytes valid_up_to (Some k) = valid_up_to + k
