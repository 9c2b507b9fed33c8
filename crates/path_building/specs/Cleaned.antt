-- A path cleaned (Go's `filepath.Clean`): without `.`, without each `..` that has a name before it or follows a root, and with one spelling of its prefix.
use Rattle.std.specs.Prelude.{◌≡◌, ◌⊎◌, ◌&&◌, ℕ, Bool, true, false, nat_eq, if◌then◌else◌, List, [], ◌∷◌, map, reverse}
use Rattle.path_rules.specs.declared.rules.Rules.TheVariants as rules
use Rattle.path_rules.specs.declared.rules.Style.{Style}
use Rattle.path_rules.specs.Separators.{separates}
use Rattle.path_rules.specs.Component.{Item, Prefix, RootDir, CurDir, ParentDir, Normal}
use Rattle.path_rules.specs.Components.{AreComponents}
use Rattle.path_building.specs.Beginning.{BeginsOddly}
use Rattle.path_building.specs.Normalized.{AreVerbatim, IsShielded}
use Rattle.path_building.specs.Written.{IsPathOf}

-- before a `..` that stays: nothing, a prefix, or another `..`
abbrev pub StaysAfter : List Item → Type 0
StaysAfter [] = Unit {0}
StaysAfter (Prefix s ∷ xs) = Unit {0}
StaysAfter (RootDir ∷ xs) = ⊥
StaysAfter (CurDir ∷ xs) = ⊥
StaysAfter (ParentDir ∷ xs) = Unit {0}
StaysAfter (Normal s ∷ xs) = ⊥

-- the components, from the last to the first, are cleaned to these: a name adds itself, `.` is left out, and `..` takes the name before it away, or is left out at a root, or stays
pub data CleansTo : List Item → List Item → Type 0 where
  nothing : CleansTo [] []
  prefix : {s : List ℕ} → CleansTo (Prefix s ∷ []) (Prefix s ∷ [])
  bare_root : CleansTo (RootDir ∷ []) (RootDir ∷ [])
  root : {s : List ℕ} → CleansTo (RootDir ∷ Prefix s ∷ []) (RootDir ∷ Prefix s ∷ [])
  here : {xs ys : List Item} → CleansTo xs ys → CleansTo (CurDir ∷ xs) ys
  name : {s : List ℕ} {xs ys : List Item} → CleansTo xs ys → CleansTo (Normal s ∷ xs) (Normal s ∷ ys)
  up : {s : List ℕ} {xs ys : List Item} → CleansTo xs (Normal s ∷ ys) → CleansTo (ParentDir ∷ xs) ys
  at_root : {xs ys : List Item} → CleansTo xs (RootDir ∷ ys) → CleansTo (ParentDir ∷ xs) (RootDir ∷ ys)
  out : {xs ys : List Item} → CleansTo xs ys → StaysAfter ys → CleansTo (ParentDir ∷ xs) (ParentDir ∷ ys)

-- where nothing is left, `.` is
abbrev pub or_dot : List Item → List Item
or_dot [] = CurDir ∷ []
or_dot (x ∷ xs) = x ∷ xs

-- the bytes begin with `\\?\`, but for the spelling of the separators
abbrev pub begins_as_verbatim : List ℕ → Bool
begins_as_verbatim [] = false
begins_as_verbatim (a ∷ []) = false
begins_as_verbatim (a ∷ b ∷ []) = false
begins_as_verbatim (a ∷ b ∷ c ∷ []) = false
begins_as_verbatim (a ∷ b ∷ c ∷ d ∷ s) = separates rules.Either a && separates rules.Either b && nat_eq c 0x3F && separates rules.Either d

-- the bytes with this one instead of each separator
abbrev pub separated_by : ℕ → List ℕ → List ℕ
separated_by c [] = []
separated_by c (b ∷ s) = (if separates rules.Either b then c else b) ∷ separated_by c s

-- a prefix, or a path, in one spelling: with `\` as its separator; but `//?/` stays, since after `\\?\` a path is read by other rules
abbrev pub one_spelling : List ℕ → List ℕ
one_spelling s = separated_by (if begins_as_verbatim s then 0x2F else 0x5C) s

-- a component, a prefix in one spelling
abbrev pub spelled : Item → Item
spelled (Prefix s) = Prefix (one_spelling s)
spelled RootDir = RootDir
spelled CurDir = CurDir
spelled ParentDir = ParentDir
spelled (Normal s) = Normal s

-- the clean form of a path's components; a path that begins with `\\?\` is kept
abbrev pub IsCleanForm : List Item → List Item → Type 0
IsCleanForm items clean = (AreVerbatim items × (clean ≡ items)) ⊎ (¬ (AreVerbatim items) × ((left : List Item) × (CleansTo (reverse items) (reverse left) × (clean ≡ or_dot (map spelled left)))))

-- the result has the clean form of the path's components, written with the main separator, and doesn't begin oddly
pub record IsCleanWritten (w : Style) (path answer : List ℕ) : Type 0 where
  pub items : List Item
  pub clean : List Item
  pub shown : List Item
  pub are : AreComponents w path items
  pub form : IsCleanForm items clean
  pub shielded : IsShielded w clean shown
  pub answers : IsPathOf w shown answer
  pub even : ¬ (BeginsOddly w answer)

-- a path that begins oddly stays as it is, but for the spelling of its separators
abbrev pub IsCleaned : Style → List ℕ → List ℕ → Type 0
IsCleaned w path answer = (BeginsOddly w path × (answer ≡ one_spelling path)) ⊎ (¬ (BeginsOddly w path) × IsCleanWritten w path answer)

-- two paths are the same bytes, but for the spelling of the separators
abbrev pub DifferInSeparators : List ℕ → List ℕ → Type 0
DifferInSeparators [] [] = Unit {0}
DifferInSeparators [] (b ∷ t) = ⊥
DifferInSeparators (a ∷ s) [] = ⊥
DifferInSeparators (a ∷ s) (b ∷ t) = ((a ≡ b) ⊎ ((separates rules.Either a ≡ true) × (separates rules.Either b ≡ true))) × DifferInSeparators s t
