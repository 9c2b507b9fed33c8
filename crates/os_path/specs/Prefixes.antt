-- The prefix of a path, with the bytes of its parts (std's `PrefixComponent::kind`).
use Rattle.std.specs.Prelude.{ℕ, List}
use Rattle.platform_str.specs.declared.platform.Platform.{Ghosts}
use Rattle.platform_str.specs.declared.os_str.OsStr.{OsStr}
use Rattle.platform_str.specs.Strings.{bytes}
use Rattle.path_rules.specs.declared.prefix.Prefix as of_strings
use Rattle.path_rules.specs.declared.prefix.Prefix.TheVariants as prefix
use Rattle.path_rules.specs.declared.rules.Style as whose
use Rattle.path_rules.specs.declared.rules.Style.TheVariants as style
use Rattle.path_rules.specs.Prefix.{Kind, Verbatim, VerbatimUnc, VerbatimDisk, Device, Unc, Disk, IsPrefixOf}

module _ {E : Type 0} {P : Ghosts E} where
  abbrev pub os_kind_of : of_strings.Prefix (OsStr E P) → Kind
  os_kind_of (prefix.Verbatim name) = Verbatim (bytes name)
  os_kind_of (prefix.VerbatimUnc server share) = VerbatimUnc (bytes server) (bytes share)
  os_kind_of (prefix.VerbatimDisk letter) = VerbatimDisk letter
  os_kind_of (prefix.Device name) = Device (bytes name)
  os_kind_of (prefix.Unc server share) = Unc (bytes server) (bytes share)
  os_kind_of (prefix.Disk letter) = Disk letter

-- a Windows path begins with a prefix of this kind, a Unix path with none
abbrev pub HasPrefix : whose.Style → List ℕ → Kind → Type 0
HasPrefix style.Unix path kind = ⊥
HasPrefix style.Windows path kind = (rest : List ℕ) × IsPrefixOf path kind rest

abbrev pub HasNoPrefix : whose.Style → List ℕ → Type 0
HasNoPrefix style.Unix path = Unit {0}
HasNoPrefix style.Windows path = (kind : Kind) (rest : List ℕ) → ¬ (IsPrefixOf path kind rest)

-- the strings of a prefix are well formed
abbrev pub IsFormedKind : (List ℕ → Type 0) → Kind → Type 0
IsFormedKind formed (Verbatim name) = formed name
IsFormedKind formed (VerbatimUnc server share) = formed server × formed share
IsFormedKind formed (VerbatimDisk letter) = Unit {0}
IsFormedKind formed (Device name) = formed name
IsFormedKind formed (Unc server share) = formed server × formed share
IsFormedKind formed (Disk letter) = Unit {0}
