-- Beginnings of Windows paths that Windows reads otherwise than by components ("File path formats on Windows systems").
use Rattle.std.specs.Prelude.{◌≡◌, ◌⊎◌, ℕ, Bool, true, nat_eq, List, [], ◌∷◌}
use Rattle.std.specs.List.{list_any}
use Rattle.path_rules.specs.declared.rules.Rules.TheVariants as rules
use Rattle.path_rules.specs.declared.rules.Style as whose
use Rattle.path_rules.specs.declared.rules.Style.TheVariants as style
use Rattle.path_rules.specs.Separators.{separates, IsField}
use Rattle.path_rules.specs.Prefix.{Kind, Verbatim, VerbatimUnc, VerbatimDisk, Device, Unc, Disk, EitherWay}
use Rattle.path_rules.specs.Root.{BeginsWithSeparator}

-- a colon comes after a drive, or before the name of a stream
abbrev pub has_colon : List ℕ → Bool
has_colon s = list_any (λ b. nat_eq b 0x3A) s

-- the path begins with two separators, as before a server
abbrev pub BeginsTwice : List ℕ → Type 0
BeginsTwice [] = ⊥
BeginsTwice (a ∷ s) = (separates rules.Either a ≡ true) × BeginsWithSeparator rules.Either s

abbrev pub BeginsAsShare : whose.Style → List ℕ → Type 0
BeginsAsShare style.Unix path = ⊥
BeginsAsShare style.Windows path = BeginsTwice path

-- the name before the first separator has a colon: Windows takes any code unit before a colon as a drive
pub record FirstHasColon (path : List ℕ) : Type 0 where
  pub name : List ℕ
  pub rest : List ℕ
  pub first : IsField rules.Either path name rest
  pub colon : has_colon name ≡ true

-- `\\.\` and `//?/`, after which Windows resolves `..` over the device
abbrev pub IsOddKind : Kind → Type 0
IsOddKind (Verbatim name) = ⊥
IsOddKind (VerbatimUnc server share) = ⊥
IsOddKind (VerbatimDisk letter) = ⊥
IsOddKind (Device name) = Unit {0}
IsOddKind (Unc server share) = server ≡ 0x3F ∷ []
IsOddKind (Disk letter) = ⊥

abbrev pub BareBeginsOddly : whose.Style → List ℕ → Type 0
BareBeginsOddly style.Unix path = ⊥
BareBeginsOddly style.Windows path = BeginsTwice path ⊎ FirstHasColon path

-- the path begins with such a prefix, or without a prefix with two separators or a name with a colon: rewritten by its components it could name another file
abbrev pub BeginsOddly : whose.Style → List ℕ → Type 0
BeginsOddly w path = EitherWay w path (BareBeginsOddly w) (λ kind rest. IsOddKind kind)
