-- How a string is cut into pieces, from its start and from its end: what one cut is, and the pieces that are left.
use Rattle.std.specs.Prelude.{◌≡◌, ℕ, ◌<◌, List, [], length, Option, None, Some, MatchOption}
use Rattle.wtf8_core.specs.{Occurrence.OccursNowhere, Occurrence.IsFirstIndex, Occurrence.IsLastIndex}
use Rattle.os_str_ext.specs.Pieces.{SplitsAt, SplitsInto}

-- a cut of s at the first occurrence of p: the piece that it takes off, and the rest
abbrev pub FirstCut : List ℕ → List ℕ → List ℕ → List ℕ → Type 0
FirstCut p s piece rest = SplitsAt IsFirstIndex p s piece rest

-- a cut of s at the last occurrence of p
abbrev pub LastCut : List ℕ → List ℕ → List ℕ → List ℕ → Type 0
LastCut p s piece rest = SplitsAt IsLastIndex p s rest piece

-- the pieces of s: those that cuts take off, one after the other, and at last the rest that can't be cut
abbrev pub ArePieces : (List ℕ → List ℕ → List ℕ → List ℕ → Type 0) → List ℕ → List ℕ → List (List ℕ) → Type 0
ArePieces Cuts p = SplitsInto (λ s piece rest. Cuts p s piece rest) (OccursNowhere p)

-- these are the pieces of the rest of a string, by some pattern that isn't empty; there are none if there is no rest. `of` gives the bytes of the rest
abbrev pub AreOfRest : {T : Type 0} → (List ℕ → List ℕ → List ℕ → List ℕ → Type 0) → (T → List ℕ) → Option T → List (List ℕ) → Type 0
AreOfRest Cuts of rest pieces = MatchOption rest (pieces ≡ []) (λ s. (p : List ℕ) × (0 < length p) × ArePieces Cuts p (of s) pieces)

-- for each pattern and each string a list, which has the string's pieces if the pattern isn't empty
abbrev pub PiecesOf : (List ℕ → List ℕ → List ℕ → List ℕ → Type 0) → Type 0
PiecesOf Cuts = (p s : List ℕ) → (pieces : List (List ℕ)) × (0 < length p → ArePieces Cuts p s pieces)

-- a string has at most one cut, and none if p doesn't occur in it
pub record CutLaws (Cuts : List ℕ → List ℕ → List ℕ → List ℕ → Type 0) : Type 0 where
  pub one : (p s a b c d : List ℕ) → Cuts p s a b → Cuts p s c d → (a ≡ c) × (b ≡ d)
  pub occurs : (p s piece rest : List ℕ) → Cuts p s piece rest → ¬ (OccursNowhere p s)

-- the pieces of the rest of a string; none if there is no rest
abbrev pub pieces_left : {Cuts : List ℕ → List ℕ → List ℕ → List ℕ → Type 0} → PiecesOf Cuts → List ℕ → Option (List ℕ) → List (List ℕ)
pieces_left pieces_of p None = []
pieces_left pieces_of p (Some s) = (pieces_of p s).0
