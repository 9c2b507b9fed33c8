-- The longest path that several paths begin with (CPython's `os.path.commonpath`), without a file system.
use Rattle.std.specs.Prelude.{◌≡◌, ◌+◌, ℕ, List, [], ◌∷◌, ◌++◌, length}
use Rattle.std.specs.List.{AllByRecursion}
use denote.Ref.{Bor}
use Rattle.path_rules.specs.declared.rules.Style.{Style}
use Rattle.path_building.specs.declared.common_bases.CommonBaseError.{CommonBaseError}
use Rattle.path_building.specs.declared.common_bases.CommonBaseError.TheVariants as error
use Rattle.path_rules.specs.Component.{Item, Prefix, RootDir, CurDir, ParentDir, Normal}
use Rattle.path_rules.specs.Components.{AreComponents}
use Rattle.path_rules.specs.Compare.{AreAllAlike, StartsAlike, StartsWith}
use Rattle.path_rules.specs.Body.{IsEndTrimmed}
use Rattle.path_rules.specs.Parent.{IsParent, HasNoParent}

abbrev pub bytes_of : Bor (List ℕ) → List ℕ
bytes_of path = path.now

-- the prefix at the start of components, if there is one
abbrev pub prefix_of : List Item → List Item
prefix_of [] = []
prefix_of (Prefix s ∷ xs) = Prefix s ∷ []
prefix_of (RootDir ∷ xs) = []
prefix_of (CurDir ∷ xs) = []
prefix_of (ParentDir ∷ xs) = []
prefix_of (Normal s ∷ xs) = []

-- components without it
abbrev pub after_prefix : List Item → List Item
after_prefix [] = []
after_prefix (Prefix s ∷ xs) = xs
after_prefix (RootDir ∷ xs) = RootDir ∷ xs
after_prefix (CurDir ∷ xs) = CurDir ∷ xs
after_prefix (ParentDir ∷ xs) = ParentDir ∷ xs
after_prefix (Normal s ∷ xs) = Normal s ∷ xs

-- the root at the start of components, if there is one
abbrev pub root_of : List Item → List Item
root_of [] = []
root_of (Prefix s ∷ xs) = []
root_of (RootDir ∷ xs) = RootDir ∷ []
root_of (CurDir ∷ xs) = []
root_of (ParentDir ∷ xs) = []
root_of (Normal s ∷ xs) = []

-- both paths have prefixes that are alike, or neither has one
pub record HaveOnePrefix (w : Style) (path other : List ℕ) : Type 0 where
  pub items : List Item
  pub other_items : List Item
  pub are : AreComponents w path items
  pub other_are : AreComponents w other other_items
  pub alike : AreAllAlike (prefix_of other_items) (prefix_of items)

-- both paths have a root component, or neither has one
pub record HaveOneRoot (w : Style) (path other : List ℕ) : Type 0 where
  pub items : List Item
  pub other_items : List Item
  pub are : AreComponents w path items
  pub other_are : AreComponents w other other_items
  pub same : root_of (after_prefix other_items) ≡ root_of (after_prefix items)

-- both paths begin alike, so that they may have a common base
abbrev pub BeginAlike : Style → List ℕ → List ℕ → Type 0
BeginAlike w path other = HaveOnePrefix w path other × HaveOneRoot w path other

-- the path up to the end of one of its components: all of it, or one of its parents
pub data IsFront (w : Style) (path : List ℕ) : List ℕ → Type 0 where
  whole : (base : List ℕ) → IsEndTrimmed w path base → IsFront w path base
  above : (base below : List ℕ) → IsFront w path below → IsParent w below base → IsFront w path base

-- The base is a front of the first path, and the others start with it. It starts with each path that all start with, so it has the most components.
pub record IsBaseOf (w : Style) (first : List ℕ) (others : List (List ℕ)) (base : List ℕ) : Type 0 where
  pub alike : AllByRecursion (BeginAlike w first) others
  pub front : IsFront w first base
  pub common : AllByRecursion (λ path. StartsWith w path base) others
  pub longest : (path : List ℕ) → StartsWith w first path → AllByRecursion (λ other. StartsWith w other path) others → StartsWith w base path

-- the longest path that all paths start with, as the first is written
abbrev pub IsCommonBase : Style → List (List ℕ) → List ℕ → Type 0
IsCommonBase w [] base = ⊥
IsCommonBase w (first ∷ others) base = IsBaseOf w first others base

-- why the path at the index has no common base with the first
abbrev pub IsApart : Style → List ℕ → List ℕ → ℕ → CommonBaseError → Type 0
IsApart w first path index error.NoPath = ⊥
IsApart w first path index (error.Prefix at) = (at ≡ index) × ¬ (HaveOnePrefix w first path)
IsApart w first path index (error.Root at) = (at ≡ index) × (HaveOnePrefix w first path × ¬ (HaveOneRoot w first path))

-- one of the others is the first that doesn't begin as the first path, for this reason
pub record IsFirstApart (w : Style) (first : List ℕ) (others : List (List ℕ)) (fault : CommonBaseError) : Type 0 where
  pub before : List (List ℕ)
  pub path : List ℕ
  pub after : List (List ℕ)
  pub are : others ≡ before ++ path ∷ after
  pub alike : AllByRecursion (BeginAlike w first) before
  pub apart : IsApart w first path (length before + 1) fault

-- why paths have no common base
abbrev pub IsCommonBaseFault : Style → List (List ℕ) → CommonBaseError → Type 0
IsCommonBaseFault w [] fault = fault ≡ error.NoPath
IsCommonBaseFault w (first ∷ others) fault = IsFirstApart w first others fault

-- no front of the path stops at its prefix or root if the other path doesn't start with it
abbrev pub HasItsTop : Style → List ℕ → List ℕ → Type 0
HasItsTop w path other = (top : List ℕ) → IsFront w path top → HasNoParent w top → StartsWith w other top

-- the base is a front of a path whose prefix and root the other path has
abbrev pub IsFrontBeside : Style → List ℕ → List ℕ → Type 0
IsFrontBeside w base other = (first : List ℕ) × (IsFront w first base × HasItsTop w first other)

-- The other path has the first components of the base, but not the one after them, behind which `count` come.
pub record PartsAt (w : Style) (base other : List ℕ) (count : ℕ) : Type 0 where
  pub front : List Item
  pub item : Item
  pub back : List Item
  pub other_items : List Item
  pub are : AreComponents w base (front ++ item ∷ back)
  pub other_are : AreComponents w other other_items
  pub many : length back ≡ count
  pub alike : StartsAlike other_items front
  pub apart : ¬ (StartsAlike other_items (front ++ item ∷ []))

-- the front of a base that another path starts with too. Each of its fronts is one of the base, and what both start with, it starts with
pub record IsShared (w : Style) (base other shared : List ℕ) : Type 0 where
  pub front : (first : List ℕ) → IsFront w first base → IsFront w first shared
  pub common : StartsWith w other shared
  pub keeps : (path : List ℕ) → StartsWith w path base → StartsWith w path shared
  pub longest : (path : List ℕ) → StartsWith w base path → StartsWith w other path → StartsWith w shared path
