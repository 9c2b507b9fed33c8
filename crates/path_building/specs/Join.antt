-- A path after another (std's `Path::join` and `PathBuf::push`).
use Rattle.std.specs.Prelude.{◌≡◌, ◌≢◌, ◌⊎◌, ℕ, List, [], ◌∷◌, ◌++◌}
use Rattle.path_rules.specs.declared.rules.Style as whose
use Rattle.path_rules.specs.declared.rules.Style.TheVariants as style
use Rattle.path_rules.specs.StyleRules.{rules_of_style, main_separator}
use Rattle.path_rules.specs.Prefix.{Kind, Disk, IsPrefixOf, WithPrefix, HasKind, IsPrefixed, IsRawPrefix}
use Rattle.path_rules.specs.Parsed.{IsVerbatimKind}
use Rattle.path_rules.specs.Root.{BeginsWithSeparator}
use Rattle.path_rules.specs.Trailing.{EndsWithSeparator}
use Rattle.path_rules.specs.Component.{Item, Prefix, RootDir, CurDir, ParentDir, Normal}
use Rattle.path_building.specs.Resolved.{IsResolved}

-- the path begins with a prefix after which only `\` separates
abbrev pub IsVerbatimPath : whose.Style → List ℕ → Type 0
IsVerbatimPath w path = HasKind w path IsVerbatimKind

-- the path is a drive alone, as `C:`
abbrev pub IsDriveAlone : whose.Style → List ℕ → Type 0
IsDriveAlone w path = WithPrefix w path (λ kind rest. (rest ≡ []) × ((letter : ℕ) × (kind ≡ Disk letter)))

-- a base that is empty or a drive alone, or that ends with a separator, needs none after it
abbrev pub NeedsNoSeparator : whose.Style → List ℕ → Type 0
NeedsNoSeparator w base = (base ≡ []) ⊎ (EndsWithSeparator (rules_of_style w) base ⊎ IsDriveAlone w base)

-- what is written between the base and a relative path
abbrev pub IsBetween : whose.Style → List ℕ → List ℕ → Type 0
IsBetween w base between = (NeedsNoSeparator w base × (between ≡ [])) ⊎ ((¬ (NeedsNoSeparator w base)) × (between ≡ main_separator w ∷ []))

-- a path that begins with a separator replaces all but the base's prefix
pub record IsJoinAtRoot (w : whose.Style) (base path joined : List ℕ) : Type 0 where
  pub raw : List ℕ
  pub root : BeginsWithSeparator (rules_of_style w) path
  pub prefix : IsRawPrefix w base raw
  pub is : joined ≡ raw ++ path

-- a relative path follows the base
pub record IsJoinAfter (w : whose.Style) (base path joined : List ℕ) : Type 0 where
  pub between : List ℕ
  pub relative : ¬ (BeginsWithSeparator (rules_of_style w) path)
  pub written : IsBetween w base between
  pub is : joined ≡ base ++ (between ++ path)

-- the path after the base: one with a prefix replaces it; after a verbatim base a path that isn't empty is resolved; else one with a root replaces all but the base's prefix, and any other follows it
pub data IsJoin (w : whose.Style) (base path joined : List ℕ) : Type 0 where
  replacing : IsPrefixed w path → joined ≡ path → IsJoin w base path joined
  resolving : ¬ (IsPrefixed w path) → IsVerbatimPath w base → path ≢ [] → IsResolved base path joined → IsJoin w base path joined
  at_root : ¬ (IsPrefixed w path) → ¬ (IsVerbatimPath w base) → IsJoinAtRoot w base path joined → IsJoin w base path joined
  after : ¬ (IsPrefixed w path) → (path ≡ []) ⊎ (¬ (IsVerbatimPath w base)) → IsJoinAfter w base path joined → IsJoin w base path joined

-- components without a `.` at the start, as they follow others
abbrev pub without_dot : List Item → List Item
without_dot [] = []
without_dot (Prefix s ∷ xs) = Prefix s ∷ xs
without_dot (RootDir ∷ xs) = RootDir ∷ xs
without_dot (CurDir ∷ xs) = xs
without_dot (ParentDir ∷ xs) = ParentDir ∷ xs
without_dot (Normal s ∷ xs) = Normal s ∷ xs

-- both Windows paths begin with one prefix, written alike
pub record ShareAPrefix (s t : List ℕ) : Type 0 where
  pub kind : Kind
  pub raw : List ℕ
  pub after_first : List ℕ
  pub after_second : List ℕ
  pub first : IsPrefixOf s kind after_first
  pub second : IsPrefixOf t kind after_second
  pub first_joined : s ≡ raw ++ after_first
  pub second_joined : t ≡ raw ++ after_second

-- both paths have the same prefix, or none
abbrev pub HaveTheSamePrefix : whose.Style → List ℕ → List ℕ → Type 0
HaveTheSamePrefix style.Unix s t = Unit {0}
HaveTheSamePrefix style.Windows s t = ShareAPrefix s t ⊎ (¬ (IsPrefixed style.Windows s) × ¬ (IsPrefixed style.Windows t))

-- a path that has no prefix, begins with no separator
abbrev pub IsRelativeTo : whose.Style → List ℕ → Type 0
IsRelativeTo w path = ¬ (IsPrefixed w path) × ¬ (BeginsWithSeparator (rules_of_style w) path)
