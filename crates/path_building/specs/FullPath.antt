-- An absolute path: one that is absolute, or is below a given directory (std's `path::absolute`), without a file system.
use Rattle.std.specs.Prelude.{◌≡◌, ◌≢◌, ◌⊎◌, ℕ, List, [], ◌∷◌}
use Rattle.path_rules.specs.declared.rules.Rules.TheVariants as rules
use Rattle.path_rules.specs.declared.rules.Style as whose
use Rattle.path_rules.specs.declared.rules.Style.TheVariants as style
use Rattle.path_building.specs.declared.full_paths.AbsoluteError.{AbsoluteError}
use Rattle.path_building.specs.declared.full_paths.AbsoluteError.TheVariants as error
use Rattle.path_rules.specs.Component.{Item, Prefix, RootDir, CurDir, ParentDir, Normal}
use Rattle.path_rules.specs.Components.{AreComponents}
use Rattle.path_rules.specs.Prefix.{Kind, Verbatim, VerbatimUnc, VerbatimDisk, Device, Unc, Disk, IsPrefixOf, IsPrefixed, EitherWay, HasKind}
use Rattle.path_rules.specs.Root.{BeginsWithSeparator, IsAbsolute}
use Rattle.path_building.specs.Base.{LacksPart, HasFreeNames}
use Rattle.path_building.specs.Cleaned.{IsCleaned}
use Rattle.path_building.specs.Collected.{ArePushed}
use Rattle.path_building.specs.Join.{IsJoin, without_dot}
use Rattle.path_building.specs.Trailing.{IsEndedAs}

-- a prefix that begins with `\\?\` or `\\.\`
abbrev pub IsDeviceKind : Kind → Type 0
IsDeviceKind (Verbatim name) = Unit {0}
IsDeviceKind (VerbatimUnc server share) = Unit {0}
IsDeviceKind (VerbatimDisk letter) = Unit {0}
IsDeviceKind (Device name) = Unit {0}
IsDeviceKind (Unc server share) = ⊥
IsDeviceKind (Disk letter) = ⊥

-- a path with such a prefix, which is absolute as it is
abbrev pub IsDevicePath : whose.Style → List ℕ → Type 0
IsDevicePath w path = HasKind w path IsDeviceKind

-- the path isn't empty, its prefix lacks no part, and no name is reserved
pub record IsPlaceable (w : whose.Style) (path : List ℕ) : Type 0 where
  pub some : path ≢ []
  pub whole : ¬ (LacksPart w path)
  pub free : HasFreeNames w path

-- a directory that a path may be below: it is absolute, and its prefix lacks no part
abbrev pub IsFullDirectory : whose.Style → List ℕ → Type 0
IsFullDirectory w directory = IsAbsolute w directory × ¬ (LacksPart w directory)

-- exactly two slashes come first, which a system may read in its own way (POSIX 4.13)
abbrev pub BeginsWithTwo : List ℕ → Type 0
BeginsWithTwo [] = ⊥
BeginsWithTwo (a ∷ []) = ⊥
BeginsWithTwo (a ∷ b ∷ s) = (a ≡ 0x2F) × ((b ≡ 0x2F) × ¬ (BeginsWithSeparator rules.Slash s))

-- components without a root at the start
abbrev pub without_root : List Item → List Item
without_root [] = []
without_root (Prefix s ∷ xs) = Prefix s ∷ xs
without_root (RootDir ∷ xs) = xs
without_root (CurDir ∷ xs) = CurDir ∷ xs
without_root (ParentDir ∷ xs) = ParentDir ∷ xs
without_root (Normal s ∷ xs) = Normal s ∷ xs

-- the components of an absolute Unix path, each joined in turn; two slashes at its start are kept
pub record IsRespelled (path mid : List ℕ) : Type 0 where
  pub items : List Item
  pub are : AreComponents style.Unix path items
  pub pushed : (BeginsWithTwo path × ArePushed style.Unix (0x2F ∷ 0x2F ∷ []) (without_root items) mid) ⊎ (¬ (BeginsWithTwo path) × ArePushed style.Unix [] items mid)

-- the components of a relative Unix path but for a `.` at the start, each joined in turn to the directory
pub record IsPushedBelow (path directory mid : List ℕ) : Type 0 where
  pub items : List Item
  pub are : AreComponents style.Unix path items
  pub pushed : ArePushed style.Unix directory (without_dot items) mid

-- what is joined to the Windows directory, cleaned: a `..` at a root is left out
pub record IsCleanedBelow (rest directory mid : List ℕ) : Type 0 where
  pub joined : List ℕ
  pub join : IsJoin style.Windows directory rest joined
  pub clean : IsCleaned style.Windows joined mid

abbrev pub AreOneDrive : Kind → Kind → Type 0
AreOneDrive (Disk a) (Disk b) = a ≡ b
AreOneDrive k l = ⊥

-- the directory is on the drive that is the prefix of this kind
abbrev pub IsOnDrive : whose.Style → Kind → List ℕ → Type 0
IsOnDrive w kind directory = HasKind w directory (AreOneDrive kind)

-- what follows a drive is below a directory on that drive
pub record IsBelowDrive (path directory mid : List ℕ) : Type 0 where
  pub kind : Kind
  pub rest : List ℕ
  pub prefix : IsPrefixOf path kind rest
  pub drive : IsOnDrive style.Windows kind directory
  pub below : IsCleanedBelow rest directory mid

-- what an absolute path is written as
abbrev pub IsOwnPlace : whose.Style → List ℕ → List ℕ → Type 0
IsOwnPlace style.Unix path mid = IsRespelled path mid
IsOwnPlace style.Windows path mid = IsCleaned style.Windows path mid

-- any other path below the directory
abbrev pub IsPlaceBelow : whose.Style → List ℕ → List ℕ → List ℕ → Type 0
IsPlaceBelow style.Unix path directory mid = IsPushedBelow path directory mid
IsPlaceBelow style.Windows path directory mid = IsBelowDrive path directory mid ⊎ (¬ (IsPrefixed style.Windows path) × IsCleanedBelow path directory mid)

-- the path, but for the separator at its end
abbrev pub IsPlaced : whose.Style → List ℕ → List ℕ → List ℕ → Type 0
IsPlaced w path directory mid = (IsAbsolute w path × IsOwnPlace w path mid) ⊎ (¬ (IsAbsolute w path) × (IsFullDirectory w directory × IsPlaceBelow w path directory mid))

-- a separator at the end of the path is kept
pub record IsPlacedEnded (w : whose.Style) (path directory full : List ℕ) : Type 0 where
  pub plain : ¬ (IsDevicePath w path)
  pub placeable : IsPlaceable w path
  pub mid : List ℕ
  pub placed : IsPlaced w path directory mid
  pub end : IsEndedAs w path mid full

-- a path that begins with `\\?\` or `\\.\` stays as it is; any other is absolute, or is below the directory
abbrev pub IsFullPath : whose.Style → List ℕ → List ℕ → List ℕ → Type 0
IsFullPath w path directory full = (IsDevicePath w path × (full ≡ path)) ⊎ IsPlacedEnded w path directory full

-- the path has no prefix, or that is a drive and the directory is on it
abbrev pub IsOnItsDrive : whose.Style → List ℕ → List ℕ → Type 0
IsOnItsDrive w path directory = EitherWay w path (λ bare. Unit {0}) (λ kind rest. IsOnDrive w kind directory)

-- why a path is neither absolute nor below the directory
abbrev pub IsPlaceFault : whose.Style → List ℕ → List ℕ → AbsoluteError → Type 0
IsPlaceFault w path directory error.Empty = ⊥
IsPlaceFault w path directory error.Prefix = ⊥
IsPlaceFault w path directory error.Reserved = ⊥
IsPlaceFault w path directory error.Directory = ¬ (IsAbsolute w path) × ¬ (IsFullDirectory w directory)
IsPlaceFault w path directory error.Drive = ¬ (IsAbsolute w path) × (IsFullDirectory w directory × ¬ (IsOnItsDrive w path directory))
IsPlaceFault w path directory error.Memory = Unit {0}

-- why a path isn't made absolute
abbrev pub IsAbsoluteFault : whose.Style → List ℕ → List ℕ → AbsoluteError → Type 0
IsAbsoluteFault w path directory error.Empty = path ≡ []
IsAbsoluteFault w path directory error.Prefix = (path ≢ []) × (¬ (IsDevicePath w path) × LacksPart w path)
IsAbsoluteFault w path directory error.Reserved = (path ≢ []) × (¬ (IsDevicePath w path) × (¬ (LacksPart w path) × ¬ (HasFreeNames w path)))
IsAbsoluteFault w path directory error.Directory = IsPlaceable w path × IsPlaceFault w path directory error.Directory
IsAbsoluteFault w path directory error.Drive = IsPlaceable w path × IsPlaceFault w path directory error.Drive
IsAbsoluteFault w path directory error.Memory = Unit {0}
