-- Pieces, strips and trims of lists, of bytes as well as of units (std's `str` has the calls).
use Rattle.std.specs.Prelude.{◌≡◌, ℕ, ◌+◌, ◌<◌, List, [], ◌∷◌, ◌++◌, length, map, Option, IfSome, MatchOption}
use Rattle.std.specs.List.{repeat}
use Rattle.wtf8_core.specs.{Occurrence.OccursAt, Occurrence.OccursNowhere, Occurrence.IsFirstIndex, Occurrence.IsLastIndex, Occurrence.IsPrefix, Occurrence.IsSuffix, Boundary.IsBoundary}

-- p occurs somewhere in s
abbrev pub OccursSomewhere : List ℕ → List ℕ → Type 0
OccursSomewhere p s = (i : ℕ) × OccursAt p s i

-- prefix and suffix are the parts of s before and after the occurrence of p that Is names
pub record SplitsAt (Is : List ℕ → List ℕ → ℕ → Type 0) (p s prefix suffix : List ℕ) : Type 0 where
  pub joined : s ≡ prefix ++ (p ++ suffix)
  pub found : Is p s (length prefix)

-- s splits into pieces: each cut takes one piece off and leaves a rest, until the rest can't be cut
pub data SplitsInto (Cuts : List ℕ → List ℕ → List ℕ → Type 0) (Whole : List ℕ → Type 0) : List ℕ → List (List ℕ) → Type 0 where
  whole : {s : List ℕ} → Whole s → SplitsInto Cuts Whole s (s ∷ [])
  cut : {s piece rest : List ℕ} {pieces : List (List ℕ)} → Cuts s piece rest → SplitsInto Cuts Whole rest pieces → SplitsInto Cuts Whole s (piece ∷ pieces)

-- the pieces of s between the occurrences of p, each cut at the first one in what is left
abbrev pub IsSplit : List ℕ → List ℕ → List (List ℕ) → Type 0
IsSplit p = SplitsInto (λ s piece rest. SplitsAt IsFirstIndex p s piece rest) (OccursNowhere p)

-- the pieces of s between the occurrences of p from the end, each cut at the last one in what is left
abbrev pub IsRSplit : List ℕ → List ℕ → List (List ℕ) → Type 0
IsRSplit p = SplitsInto (λ s piece rest. SplitsAt IsLastIndex p s rest piece) (OccursNowhere p)

-- r is s without each p at its start, if p isn't empty
pub record IsStartTrim (p s r : List ℕ) : Type 0 where
  pub count : ℕ
  pub trimmed : s ≡ repeat count p ++ r
  pub done : ¬ (IsPrefix p r)

-- r is s without each p at its end, if p isn't empty
pub record IsEndTrim (p s r : List ℕ) : Type 0 where
  pub count : ℕ
  pub trimmed : s ≡ r ++ repeat count p
  pub done : ¬ (IsSuffix p r)

-- r is s trimmed at its start, and then at its end
abbrev pub IsTrim : List ℕ → List ℕ → List ℕ → Type 0
IsTrim p s r = (m : List ℕ) × (IsStartTrim p s m × IsEndTrim p m r)

-- r is what Is leaves of the bytes s, and its units of the units of s, where p isn't empty; else it is s
pub record Trims (units_of : List ℕ → List ℕ) (Is : List ℕ → List ℕ → List ℕ → Type 0) (p s r : List ℕ) : Type 0 where
  pub bytes : 0 < length p → Is p s r
  pub units : 0 < length p → Is (units_of p) (units_of s) (units_of r)
  pub whole : length p ≡ 0 → r ≡ s

-- these are the pieces of the bytes s that Is names, and their units those of the units of s
pub record Splits (units_of : List ℕ → List ℕ) (Is : List ℕ → List ℕ → List (List ℕ) → Type 0) (p s : List ℕ) (pieces : List (List ℕ)) : Type 0 where
  pub bytes : Is p s pieces
  pub units : Is (units_of p) (units_of s) (map units_of pieces)

-- s may be cut before and after an n-byte match at r
abbrev pub MayBeCutAround : List ℕ → ℕ → Option ℕ → Type 0
MayBeCutAround s n r = IfSome r (λ i. IsBoundary s i × IsBoundary s (i + n))

-- r is what follows the prefix p of s, None if p is no prefix of s; `of` maps the result to its list of bytes or units
abbrev pub StripsPrefix : {T : Type 0} → (T → List ℕ) → List ℕ → List ℕ → Option T → Type 0
StripsPrefix of p s r = MatchOption r (¬ (IsPrefix p s)) (λ rest. s ≡ p ++ of rest)

-- r is what comes before the suffix p of s, None if p is no suffix of s
abbrev pub StripsSuffix : {T : Type 0} → (T → List ℕ) → List ℕ → List ℕ → Option T → Type 0
StripsSuffix of p s r = MatchOption r (¬ (IsSuffix p s)) (λ rest. s ≡ of rest ++ p)

-- r is both parts of s around the occurrence of p that Is names, None if p doesn't occur
abbrev pub SplitsOnce : {T : Type 0} → (List ℕ → List ℕ → ℕ → Type 0) → (T → List ℕ) → List ℕ → List ℕ → Option (T × T) → Type 0
SplitsOnce Is of p s r = MatchOption r (OccursNowhere p s) (λ parts. SplitsAt Is p s (of parts.0) (of parts.1))
