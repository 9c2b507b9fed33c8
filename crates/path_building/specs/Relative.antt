-- A path as it is reached from a base (the crate pathdiff's `diff_paths`).
use Rattle.std.specs.Prelude.{◌≡◌, ◌⊎◌, ◌↔◌, ℕ, List, [], ◌∷◌, ◌++◌, reverse, Option, Some, None}
use Rattle.path_rules.specs.declared.rules.Style.{Style}
use Rattle.path_rules.specs.Component.{Item, Prefix, RootDir, CurDir, ParentDir, Normal}
use Rattle.path_rules.specs.Components.{AreComponents}
use Rattle.path_rules.specs.Root.{IsAbsolute}
use Rattle.path_rules.specs.Compare.{AreAlike, AreAllAlike}
use Rattle.path_building.specs.Beginning.{BeginsOddly}
use Rattle.path_building.specs.Cleaned.{CleansTo}
use Rattle.path_building.specs.Normalized.{AreVerbatim, IsShielded}
use Rattle.path_building.specs.Written.{IsWritten, IsPathOf}
use Rattle.path_building.specs.Join.{IsJoin, without_dot}

-- what the components of a path are cleaned to, also after `\\?\`
abbrev pub IsPlace : Style → List ℕ → List Item → Type 0
IsPlace w path place = (items : List Item) × (AreComponents w path items × CleansTo (reverse items) (reverse place))

-- both paths lead to one place: what their components are cleaned to is alike
abbrev pub AreOnePlace : Style → List ℕ → List ℕ → Type 0
AreOnePlace w s t = (first : List Item) × ((second : List Item) × (IsPlace w s first × (IsPlace w t second × AreAllAlike first second)))

-- what is left of two lists after the components at their start that are alike
abbrev pub AreApart : List Item → List Item → List Item → List Item → Type 0
AreApart [] ys us vs = (us ≡ []) × (vs ≡ ys)
AreApart (x ∷ xs) [] us vs = (us ≡ x ∷ xs) × (vs ≡ [])
AreApart (x ∷ xs) (y ∷ ys) us vs = (AreAlike x y × AreApart xs ys us vs) ⊎ (¬ (AreAlike x y) × ((us ≡ x ∷ xs) × (vs ≡ y ∷ ys)))

-- a `..` for each component
abbrev pub up_from : List Item → List Item
up_from [] = []
up_from (x ∷ xs) = ParentDir ∷ up_from xs

-- the first is a prefix or a root
abbrev pub BeginsAtTop : List Item → Type 0
BeginsAtTop [] = ⊥
BeginsAtTop (Prefix s ∷ xs) = Unit {0}
BeginsAtTop (RootDir ∷ xs) = Unit {0}
BeginsAtTop (CurDir ∷ xs) = ⊥
BeginsAtTop (ParentDir ∷ xs) = ⊥
BeginsAtTop (Normal s ∷ xs) = ⊥

-- the first is `..`
abbrev pub BeginsUp : List Item → Type 0
BeginsUp [] = ⊥
BeginsUp (Prefix s ∷ xs) = ⊥
BeginsUp (RootDir ∷ xs) = ⊥
BeginsUp (CurDir ∷ xs) = ⊥
BeginsUp (ParentDir ∷ xs) = Unit {0}
BeginsUp (Normal s ∷ xs) = ⊥

-- components as they are written, after `.` where the first would be read as a prefix
abbrev pub AreWritten : Style → List Item → List ℕ → Type 0
AreWritten w names r = (shown : List Item) × (IsShielded w names shown × IsWritten w shown r)

-- the path written anew, cleaned if its prefix begins with `\\?\`, as it is where it is joined
pub record IsWhole (w : Style) (path r : List ℕ) : Type 0 where
  pub items : List Item
  pub shown : List Item
  pub are : AreComponents w path items
  pub form : (AreVerbatim items × CleansTo (reverse items) (reverse shown)) ⊎ (¬ (AreVerbatim items) × (shown ≡ items))
  pub answers : IsPathOf w shown r

-- what is left of a path and of a base that don't begin oddly, where both or neither are absolute
pub record AreLeft (w : Style) (path base : List ℕ) (us vs : List Item) : Type 0 where
  pub items : List Item
  pub base_items : List Item
  pub both : IsAbsolute w path ↔ IsAbsolute w base
  pub even : ¬ (BeginsOddly w path ⊎ BeginsOddly w base)
  pub are : AreComponents w path items
  pub base_are : AreComponents w base base_items
  pub left : List Item
  pub apart : AreApart items base_items us left
  pub wanted : vs ≡ without_dot left

-- The relative path is the whole path where what is left of it begins with a prefix or a root.
-- Else it is a `..` for each component that is left of the base, except a `.` at its start, and then what is left of the path.
abbrev pub IsWay : Style → List ℕ → List Item → List Item → List ℕ → Type 0
IsWay w path us vs r = (BeginsAtTop us × IsWhole w path r) ⊎ (¬ (BeginsAtTop us) × AreWritten w (up_from vs ++ us) r)

-- an absolute path is itself the way from a base that isn't
abbrev pub IsAbsoluteAlone : Style → List ℕ → List ℕ → List ℕ → Type 0
IsAbsoluteAlone w path base r = IsAbsolute w path × (¬ (IsAbsolute w base) × (r ≡ path))

pub record IsRelativeWay (w : Style) (path base r : List ℕ) : Type 0 where
  pub us : List Item
  pub vs : List Item
  pub left : AreLeft w path base us vs
  pub inside : ¬ (BeginsUp vs)
  pub way : IsWay w path us vs r

abbrev pub IsCandidate : Style → List ℕ → List ℕ → List ℕ → Type 0
IsCandidate w path base r = IsAbsoluteAlone w path base r ⊎ IsRelativeWay w path base r

-- one of two paths that are both absolute, or both not, begins oddly
abbrev pub IsOddPair : Style → List ℕ → List ℕ → Type 0
IsOddPair w path base = (IsAbsolute w path ↔ IsAbsolute w base) × (BeginsOddly w path ⊎ BeginsOddly w base)

-- there is no relative path from an absolute base to a path that isn't, nor if one begins oddly, nor from a base whose first component left is a `..`
abbrev pub HasNoWay : Style → List ℕ → List ℕ → Type 0
HasNoWay w path base = (¬ (IsAbsolute w path) × IsAbsolute w base) ⊎ (IsOddPair w path base ⊎ ((us : List Item) × ((vs : List Item) × (AreLeft w path base us vs × BeginsUp vs))))

abbrev pub IsCandidateOrNone : Style → List ℕ → List ℕ → Option (List ℕ) → Type 0
IsCandidateOrNone w path base (Some r) = IsCandidate w path base r
IsCandidateOrNone w path base None = HasNoWay w path base

-- the way joined to the base leads to the path's place
abbrev pub LeadsThere : Style → List ℕ → List ℕ → List ℕ → Type 0
LeadsThere w path base r = (joined : List ℕ) × (IsJoin w base r joined × AreOnePlace w joined path)

abbrev pub LeadsElsewhere : Style → List ℕ → List ℕ → List ℕ → Type 0
LeadsElsewhere w path base r = (joined : List ℕ) × (IsJoin w base r joined × ¬ (AreOnePlace w joined path))

-- the way from the base, if there is one that leads to the path's place
abbrev pub IsRelativeFrom : Style → List ℕ → List ℕ → Option (List ℕ) → Type 0
IsRelativeFrom w path base (Some r) = IsCandidate w path base r × LeadsThere w path base r
IsRelativeFrom w path base None = HasNoWay w path base ⊎ ((r : List ℕ) × (IsCandidate w path base r × LeadsElsewhere w path base r))
