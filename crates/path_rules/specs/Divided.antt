-- A path's bytes, divided into its components and what is between them.
use Rattle.std.specs.Prelude.{◌≡◌, ◌⊎◌, ℕ, nat_eq, ◌||◌, Bool, true, List, [], ◌∷◌, ◌++◌}
use Rattle.std.specs.List.{AllByRecursion}
use Rattle.path_rules.specs.declared.rules.Rules.{Rules}
use Rattle.path_rules.specs.declared.rules.Style.{Style}
use Rattle.path_rules.specs.Separators.{separates}
use Rattle.path_rules.specs.StyleRules.{rules_of_style}
use Rattle.path_rules.specs.Component.{Item, Prefix, RootDir, CurDir, ParentDir, Normal, components_in}
use Rattle.path_rules.specs.Trailing.{EndsWithSeparator}
use Rattle.path_rules.specs.Cut.{IsAsciiCut}

-- the bytes that are a component; a root is none, since the separator after it isn't always there
abbrev pub part_of : Item → List ℕ
part_of (Prefix s) = s
part_of RootDir = []
part_of CurDir = 0x2E ∷ []
part_of ParentDir = 0x2E ∷ 0x2E ∷ []
part_of (Normal s) = s

-- a byte that may be between components: a separator, or a dot that names nothing
abbrev pub is_between : ℕ → Bool
is_between b = nat_eq b 0x2F || (nat_eq b 0x5C || nat_eq b 0x2E)

abbrev pub IsGap : List ℕ → Type 0
IsGap s = AllByRecursion (λ b. is_between b ≡ true) s

-- where a gap is: at the start of a path, after its prefix, or after another component, which a separator by these rules follows
pub data Place : Type 0 where
  AtStart : Place
  AfterPrefix : Place
  After : Rules → Place

-- no component, up to a separator
pub record IsLoose (r : Rules) (s : List ℕ) : Type 0 where
  pub nothing : components_in r s ≡ []
  pub ends : (s ≡ []) ⊎ EndsWithSeparator r s

-- a separator, and what comes after it
pub record IsSeparated (r : Rules) (Rest : List ℕ → Type 0) (s : List ℕ) : Type 0 where
  pub separator : ℕ
  pub more : List ℕ
  pub joined : s ≡ separator ∷ more
  pub is : separates r separator ≡ true
  pub rest : Rest more

-- nothing at the start; after a component a separator first
abbrev pub IsGapAt : (List ℕ → Type 0) → Place → List ℕ → Type 0
IsGapAt Rest AtStart s = s ≡ []
IsGapAt Rest AfterPrefix s = Rest s
IsGapAt Rest (After r) s = IsSeparated r Rest s

-- nothing before a prefix or a root; before another component a gap with no component, which ends with a separator
abbrev pub IsGapBefore : Rules → Place → Item → List ℕ → Type 0
IsGapBefore r place (Prefix t) s = s ≡ []
IsGapBefore r place RootDir s = s ≡ []
IsGapBefore r place CurDir s = IsGapAt (IsLoose r) place s
IsGapBefore r place ParentDir s = IsGapAt (IsLoose r) place s
IsGapBefore r place (Normal t) s = IsGapAt (IsLoose r) place s

-- at the end of the path nothing, or a gap with no component
abbrev pub IsGapAtEnd : Rules → Place → List ℕ → Type 0
IsGapAtEnd r place s = (s ≡ []) ⊎ IsGapAt (λ t. components_in r t ≡ []) place s

-- the place after a component
abbrev pub place_after : Style → Rules → Item → Place
place_after w r (Prefix s) = AfterPrefix
place_after w r RootDir = After (rules_of_style w)
place_after w r CurDir = After r
place_after w r ParentDir = After r
place_after w r (Normal s) = After r

-- a gap, a part, and then others; the part is cut on both sides beside ASCII bytes or at an end
pub record IsPartAfter (Before : List ℕ → Type 0) (before part s : List ℕ) (others : List ℕ → List ℕ → Type 0) : Type 0 where
  pub gap : List ℕ
  pub rest : List ℕ
  pub joined : s ≡ gap ++ (part ++ rest)
  pub is_gap : IsGap gap
  pub stands : Before gap
  pub begins : IsAsciiCut (before ++ gap) (part ++ rest)
  pub ends : IsAsciiCut (before ++ (gap ++ part)) rest
  pub then : others (before ++ (gap ++ part)) rest

-- after these bytes, which end at the place, the components and gaps come by turns, and nothing else
abbrev pub IsDivided : Style → Rules → Place → List ℕ → List Item → List ℕ → Type 0
IsDivided w r place before [] s = IsGap s × IsGapAtEnd r place s
IsDivided w r place before (x ∷ xs) s = IsPartAfter (IsGapBefore r place x) before (part_of x) s (λ t u. IsDivided w r (place_after w r x) t xs u)
