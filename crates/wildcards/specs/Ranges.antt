-- Ranges of letters (POSIX, "Shell Command Language", 2.13.1).
use Rattle.std.specs.Prelude.{◌≡◌, ◌<◌, Bool, true, false, not, ℕ, nat_le, nat_lt, if◌then◌else◌, ◌&&◌, ◌||◌, List, [], ◌∷◌, get_or}
use Rattle.std.specs.List.Sorted.{IsNonDecreasingBy}
use Rattle.wildcards.specs.declared.range.Range.{Range}

-- the letter is in the range
abbrev pub lies_in : Range → ℕ → Bool
lies_in r letter = nat_le r.first letter && nat_le letter r.last

-- the letter is in one of the ranges
abbrev pub is_in : List Range → ℕ → Bool
is_in [] letter = false
is_in (r ∷ rs) letter = lies_in r letter || is_in rs letter

-- a class permits the letters of its ranges or, if it is negated, each other letter
abbrev pub permits : Bool → List Range → ℕ → Bool
permits false ranges letter = is_in ranges letter
permits true ranges letter = not (is_in ranges letter)

-- the table says of each letter of ASCII whether the class permits it
abbrev pub IsTable : Bool → List Range → List Bool → Type 0
IsTable negated ranges table = (letter : ℕ) → letter < 0x80 → get_or table letter false ≡ permits negated ranges letter

-- the greater of two letters
abbrev pub further : ℕ → ℕ → ℕ
further reach last = if nat_lt reach last then last else reach

-- each range with the greatest last letter of those up to it
abbrev pub reaches : ℕ → List Range → List Range
reaches reach [] = []
reaches reach (r ∷ rs) = record { first = r.first; last = further reach r.last } ∷ reaches (further reach r.last) rs

-- the first and the last letters ascend
abbrev pub AreOrdered : List Range → Type 0
AreOrdered ranges = IsNonDecreasingBy (λ r. r.first) ranges × IsNonDecreasingBy (λ r. r.last) ranges
