-- What may be the base of names that come from outside: a place of its own, without NUL.
use Rattle.std.specs.Prelude.{◌≡◌, ◌≢◌, ◌⊎◌, ℕ, true, if◌then◌else◌, List, [], ◌∷◌, ◌++◌, length, map, codes}
use Rattle.std.specs.Char.{to_ascii_lowercase}
use Rattle.std.specs.List.{AllByRecursion}
use Rattle.path_rules.specs.declared.rules.Rules.TheVariants as rules
use Rattle.path_rules.specs.declared.rules.Style as whose
use Rattle.path_rules.specs.declared.rules.Style.TheVariants as style
use Rattle.path_rules.specs.Component.{Item, Prefix, RootDir, CurDir, ParentDir, Normal}
use Rattle.path_rules.specs.Prefix.{Kind, Verbatim, VerbatimUnc, VerbatimDisk, Device, Unc, Disk, IsPrefixOf, EitherWay, HasKind, WithPrefix, rules_of, begins_verbatim}
use Rattle.path_rules.specs.Parsed.{IsVerbatimKind}
use Rattle.path_rules.specs.Components.{AreComponents}
use Rattle.path_rules.specs.Reserved.{is_dot_or_space, IsReserved}
use Rattle.path_rules.specs.Simplified.{HasSingleSeparators}
use Rattle.path_building.specs.Beginning.{BeginsTwice}
use Rattle.path_building.specs.Written.{BeginsAsObject}

-- no byte is NUL, at which a string of C ends
abbrev pub HasNoNul : List ℕ → Type 0
HasNoNul s = AllByRecursion (λ b. b ≢ 0) s

-- the first index at which s has a NUL
pub record IsFirstNul (s : List ℕ) (index : ℕ) : Type 0 where
  pub before : List ℕ
  pub after : List ℕ
  pub joined : s ≡ before ++ 0 ∷ after
  pub none_before : HasNoNul before
  pub index_is : index ≡ length before

-- `UNC`, after which come a server and a share
abbrev pub unc : List ℕ
unc = codes "UNC"

-- `GLOBALROOT`, after which comes any path of the object manager
abbrev pub global_root : List ℕ
global_root = codes "GLOBALROOT"

-- both are equal but for the case of their letters, as Windows compares the names of objects
abbrev pub AreOneInAnyCase : List ℕ → List ℕ → Type 0
AreOneInAnyCase s t = map to_ascii_lowercase s ≡ map to_ascii_lowercase t

-- what is written after `\\?\` or `\\.\` names no object of its own
abbrev pub NamesNoObject : List ℕ → Type 0
NamesNoObject name = (name ≡ []) ⊎ (AreOneInAnyCase name unc ⊎ AreOneInAnyCase name global_root)

-- the last byte is a dot or a space, which Windows takes off the end of a path ("File path formats on Windows systems")
pub record EndsInDotOrSpace (s : List ℕ) : Type 0 where
  pub before : List ℕ
  pub last : ℕ
  pub joined : s ≡ before ++ last ∷ []
  pub is : is_dot_or_space last ≡ true

-- a prefix of this kind lacks a part, or Windows reads another before a name: `\\?\UNC\server` lacks a share, `\\?\unc` a server too, and `//?/` is read as `\\?\`
abbrev pub IsOpenKind : Kind → Type 0
IsOpenKind (Verbatim name) = NamesNoObject name
IsOpenKind (VerbatimUnc server share) = (server ≡ []) ⊎ (share ≡ [])
IsOpenKind (VerbatimDisk letter) = ⊥
IsOpenKind (Device name) = NamesNoObject name ⊎ EndsInDotOrSpace name
IsOpenKind (Unc server share) = (server ≡ 0x3F ∷ []) ⊎ EndsInDotOrSpace share
IsOpenKind (Disk letter) = ⊥

-- a path without a prefix that begins as one with such a prefix does, or as a path of the object manager
abbrev pub BeginsOpen : whose.Style → List ℕ → Type 0
BeginsOpen style.Unix path = ⊥
BeginsOpen style.Windows path = BeginsTwice path ⊎ BeginsAsObject path

-- the path is incomplete as a base: its prefix is, or it begins so without one
abbrev pub LacksPart : whose.Style → List ℕ → Type 0
LacksPart w path = EitherWay w path (BeginsOpen w) (λ kind rest. IsOpenKind kind)

-- no name that Windows reserves
abbrev pub IsFree : Item → Type 0
IsFree (Prefix s) = Unit {0}
IsFree RootDir = Unit {0}
IsFree CurDir = Unit {0}
IsFree ParentDir = Unit {0}
IsFree (Normal s) = ¬ (IsReserved s)

-- no name of a Windows path is reserved
abbrev pub AreFree : whose.Style → List Item → Type 0
AreFree style.Unix items = Unit {0}
AreFree style.Windows items = AllByRecursion IsFree items

abbrev pub HasFreeNames : whose.Style → List ℕ → Type 0
HasFreeNames w path = (items : List Item) × (AreComponents w path items × AreFree w items)

-- after `\\?\` a `/` or two `\` in a row, where Windows reads a name with a `/` and an empty one
abbrev pub IsMisread : Kind → List ℕ → Type 0
IsMisread kind rest = IsVerbatimKind kind × ¬ (HasSingleSeparators rest)

-- Windows reads a name of the path otherwise: without the dot or the space at its end, as a stream after a colon, or as a device. After `\\?\` it reads each name as it is, also one that no file has
abbrev pub HasReservedName : whose.Style → List ℕ → Type 0
HasReservedName w path = (¬ (HasKind w path IsVerbatimKind) × ¬ (HasFreeNames w path)) ⊎ WithPrefix w path IsMisread

-- a complete path without NUL, whose names Windows reads as they are
abbrev pub IsBase : whose.Style → List ℕ → Type 0
IsBase w base = HasNoNul base × (¬ (LacksPart w base) × ¬ (HasReservedName w base))

-- the path is a prefix alone after which only `\` separates, as `\\?\C:`
abbrev pub IsVerbatimAlone : whose.Style → List ℕ → Type 0
IsVerbatimAlone style.Unix path = ⊥
IsVerbatimAlone style.Windows path = (kind : Kind) × (IsPrefixOf path kind [] × (rules_of kind ≡ rules.Verbatim))

-- the root of a prefix alone that begins with `\\?\`, in which names are; none of any other path
abbrev pub own_root : List Item → List Item
own_root [] = []
own_root (Prefix s ∷ []) = if begins_verbatim s then RootDir ∷ [] else []
own_root (Prefix s ∷ y ∷ xs) = []
own_root (RootDir ∷ xs) = []
own_root (CurDir ∷ xs) = []
own_root (ParentDir ∷ xs) = []
own_root (Normal s ∷ xs) = []
