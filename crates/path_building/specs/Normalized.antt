-- The normal form of a path (std's `Path::normalize_lexically`), and what is written for it.
use Rattle.std.specs.Prelude.{◌≡◌, ◌⊎◌, ℕ, true, List, [], ◌∷◌}
use Rattle.path_rules.specs.declared.rules.Style.{Style}
use Rattle.path_rules.specs.declared.rules.Style.TheVariants as style
use Rattle.path_building.specs.declared.normal.NormalizeError.{NormalizeError}
use Rattle.path_building.specs.declared.normal.NormalizeError.TheVariants as error
use Rattle.path_rules.specs.Component.{Item, Prefix, RootDir, CurDir, ParentDir, Normal}
use Rattle.path_rules.specs.Components.{AreComponents}
use Rattle.path_rules.specs.Prefix.{begins_verbatim}
use Rattle.path_building.specs.Beginning.{has_colon, BeginsOddly}
use Rattle.path_building.specs.Normal.{AreNormalOf}
use Rattle.path_building.specs.Written.{IsPathOf}

-- the components of a path whose prefix begins with `\\?\`
abbrev pub AreVerbatim : List Item → Type 0
AreVerbatim [] = ⊥
AreVerbatim (Prefix s ∷ xs) = begins_verbatim s ≡ true
AreVerbatim (RootDir ∷ xs) = ⊥
AreVerbatim (CurDir ∷ xs) = ⊥
AreVerbatim (ParentDir ∷ xs) = ⊥
AreVerbatim (Normal s ∷ xs) = ⊥

-- a name with a colon, which Windows would read as a drive, or with a stream, at the start of a path (Go's `filepath.Clean`)
abbrev pub IsColonName : Style → List ℕ → Type 0
IsColonName style.Unix s = ⊥
IsColonName style.Windows s = has_colon s ≡ true

-- the first component is such a name
abbrev pub BeginsWithColon : Style → List Item → Type 0
BeginsWithColon w [] = ⊥
BeginsWithColon w (Prefix s ∷ xs) = ⊥
BeginsWithColon w (RootDir ∷ xs) = ⊥
BeginsWithColon w (CurDir ∷ xs) = ⊥
BeginsWithColon w (ParentDir ∷ xs) = ⊥
BeginsWithColon w (Normal s ∷ xs) = IsColonName w s

-- `.` comes before a first name with a colon
abbrev pub IsShielded : Style → List Item → List Item → Type 0
IsShielded w items shown = (BeginsWithColon w items × (shown ≡ CurDir ∷ items)) ⊎ (¬ (BeginsWithColon w items) × (shown ≡ items))

-- the normal form of a path's components; a path that begins with `\\?\` is kept
abbrev pub IsNormalForm : List Item → List Item → Type 0
IsNormalForm items normal = (AreVerbatim items × (normal ≡ items)) ⊎ (¬ (AreVerbatim items) × AreNormalOf items normal)

-- the result has the normal form of the path's components, written with the main separator, and doesn't begin oddly
pub record IsNormalWritten (w : Style) (path answer : List ℕ) : Type 0 where
  pub items : List Item
  pub normal : List Item
  pub shown : List Item
  pub are : AreComponents w path items
  pub form : IsNormalForm items normal
  pub shielded : IsShielded w normal shown
  pub answers : IsPathOf w shown answer
  pub even : ¬ (BeginsOddly w answer)

-- a path that begins oddly stays as it is
abbrev pub IsNormalized : Style → List ℕ → List ℕ → Type 0
IsNormalized w path answer = (BeginsOddly w path × (answer ≡ path)) ⊎ (¬ (BeginsOddly w path) × IsNormalWritten w path answer)

-- a `..` has no name before it to take
abbrev pub HasNoForm : Style → List ℕ → Type 0
HasNoForm w path = (items normal : List Item) → AreComponents w path items → ¬ (IsNormalForm items normal)

abbrev pub HasNoNormalForm : Style → List ℕ → Type 0
HasNoNormalForm w path = ¬ (BeginsOddly w path) × HasNoForm w path

-- why a path has no normal form
abbrev pub IsNormalizeFault : Style → List ℕ → NormalizeError → Type 0
IsNormalizeFault w path error.NoName = HasNoNormalForm w path
IsNormalizeFault w path error.Memory = Unit {0}
