-- A path without `\\?\`, where that names the same path (the crate dunce's `simplified`, of paths that stay absolute).
use Rattle.std.specs.Prelude.{◌≡◌, ◌≢◌, ◌↔◌, ◌⊎◌, ℕ, ◌+◌, ◌≤◌, nat_lt, if◌then◌else◌, List, [], ◌∷◌}
use Rattle.std.specs.List.{AllByRecursion}
use Rattle.path_rules.specs.declared.rules.Rules.TheVariants as rules
use Rattle.path_rules.specs.declared.rules.Style.{Style}
use Rattle.path_rules.specs.declared.rules.Style.TheVariants as style
use Rattle.path_rules.specs.Component.{Item, Prefix, RootDir, CurDir, ParentDir, Normal}
use Rattle.path_rules.specs.Components.{AreComponents, AreWindowsComponents}
use Rattle.path_rules.specs.Prefix.{VerbatimDisk, Disk, IsPrefixOf}
use Rattle.path_rules.specs.Reserved.{IsReserved}
use Rattle.path_rules.specs.Root.{BeginsWithSeparator, HasRoot, IsAbsolute}

-- how many UTF-16 code units a byte of UTF-8 or WTF-8 begins
abbrev pub wide_units_of : ℕ → ℕ
wide_units_of b = if nat_lt b 0x80 then 1 else (if nat_lt b 0xC0 then 0 else (if nat_lt b 0xF0 then 1 else 2))

-- how many UTF-16 code units such bytes have
abbrev pub wide_len : List ℕ → ℕ
wide_len [] = 0
wide_len (b ∷ s) = wide_units_of b + wide_len s

-- the components after the prefix, all of them where there is none
abbrev pub below_prefix : List Item → List Item
below_prefix [] = []
below_prefix (Prefix s ∷ items) = items
below_prefix (RootDir ∷ items) = RootDir ∷ items
below_prefix (CurDir ∷ items) = CurDir ∷ items
below_prefix (ParentDir ∷ items) = ParentDir ∷ items
below_prefix (Normal s ∷ items) = Normal s ∷ items

-- both paths are absolute or neither is, both have a root or neither has, and below their prefixes both have the same components
pub record KeepsPlace (style : Style) (path other : List ℕ) : Type 0 where
  pub absolute : IsAbsolute style path ↔ IsAbsolute style other
  pub root : HasRoot style path ↔ HasRoot style other
  pub items : List Item
  pub other_items : List Item
  pub are : AreComponents style path items
  pub other_are : AreComponents style other other_items
  pub below : below_prefix items ≡ below_prefix other_items

-- a name of at most 255 code units that Windows doesn't keep for itself; neither `.` nor `..`
abbrev pub IsPlainItem : Item → Type 0
IsPlainItem (Prefix s) = Unit {0}
IsPlainItem RootDir = Unit {0}
IsPlainItem CurDir = ⊥
IsPlainItem ParentDir = ⊥
IsPlainItem (Normal s) = ¬ (IsReserved s) × (wide_len s ≤ 255)

-- the bytes have no `/`, which doesn't separate after `\\?\` and does elsewhere, and no two `\` in a row, which are one separator elsewhere
abbrev pub HasSingleSeparators : List ℕ → Type 0
HasSingleSeparators [] = Unit {0}
HasSingleSeparators (b ∷ s) = (b ≢ 0x2F) × (¬ ((b ≡ 0x5C) × BeginsWithSeparator rules.Verbatim s) × HasSingleSeparators s)

-- the path is `\\?\` and t, which has single separators, t begins with the same drive and keeps the path's place, the path has plain names alone, and at most 260 code units
pub record IsSimplifiable (path t : List ℕ) : Type 0 where
  pub joined : path ≡ 0x5C ∷ 0x5C ∷ 0x3F ∷ 0x5C ∷ t
  pub single : HasSingleSeparators t
  pub letter : ℕ
  pub rest : List ℕ
  pub prefix : IsPrefixOf path (VerbatimDisk letter) rest
  pub drive : IsPrefixOf t (Disk letter) rest
  pub place : KeepsPlace style.Windows path t
  pub items : List Item
  pub are : AreWindowsComponents path items
  pub plain : AllByRecursion IsPlainItem items
  pub short : wide_len path ≤ 260

-- t is the path without `\\?\` where it is simplifiable, and else the path
abbrev pub IsWindowsSimplified : List ℕ → List ℕ → Type 0
IsWindowsSimplified path t = IsSimplifiable path t ⊎ (((u : List ℕ) → ¬ (IsSimplifiable path u)) × (t ≡ path))

-- t is a Windows path without `\\?\` where it is simplifiable, and else the path
abbrev pub IsSimplified : Style → List ℕ → List ℕ → Type 0
IsSimplified style.Unix path t = t ≡ path
IsSimplified style.Windows path t = IsWindowsSimplified path t
