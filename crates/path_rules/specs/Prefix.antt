-- The prefix of a Windows path ("Naming Files, Paths, and Namespaces"; std's `Prefix`).
use Rattle.std.specs.Prelude.{◌≡◌, ◌≢◌, ℕ, ◌-◌, Bool, nat_eq, nat_le, ◌&&◌, ◌||◌, if◌then◌else◌, List, [], ◌∷◌, false, ◌++◌, ◌⊎◌}
use Rattle.path_rules.specs.declared.rules.Rules.{Rules}
use Rattle.path_rules.specs.declared.rules.Rules.TheVariants as rules
use Rattle.path_rules.specs.Separators.{separates, IsField}
use Rattle.path_rules.specs.declared.rules.Style as whose
use Rattle.path_rules.specs.declared.rules.Style.TheVariants as style

-- a kind of prefix, with its parts; a drive by its upper-case letter
pub data Kind : Type 0 where
  Verbatim : List ℕ → Kind
  VerbatimUnc : List ℕ → List ℕ → Kind
  VerbatimDisk : ℕ → Kind
  Device : List ℕ → Kind
  Unc : List ℕ → List ℕ → Kind
  Disk : ℕ → Kind

-- A to Z, a to z
abbrev pub is_letter : ℕ → Bool
is_letter b = nat_le 0x41 b && nat_le b 0x5A || nat_le 0x61 b && nat_le b 0x7A

abbrev pub upper : ℕ → ℕ
upper b = if nat_le 0x61 b && nat_le b 0x7A then b - 32 else b

-- how a path begins, and what follows: `\\?\`, `\\.\`, two separators, a letter and a colon, or none of these
pub data Lead : Type 0 where
  VerbatimLead : List ℕ → Lead
  DeviceLead : List ℕ → Lead
  DoubleLead : List ℕ → Lead
  DriveLead : ℕ → List ℕ → Lead
  NoLead : Lead

-- after two separators
abbrev pub double_lead : ℕ → ℕ → List ℕ → Lead
double_lead a b [] = DoubleLead []
double_lead a b (c ∷ []) = DoubleLead (c ∷ [])
double_lead a b (c ∷ d ∷ s) =
    if nat_eq a 0x5C && nat_eq b 0x5C && nat_eq c 0x3F && nat_eq d 0x5C then VerbatimLead s
    else (if nat_eq c 0x2E && separates rules.Either d then DeviceLead s else DoubleLead (c ∷ d ∷ s))

abbrev pub lead_of : List ℕ → Lead
lead_of [] = NoLead
lead_of (a ∷ []) = NoLead
lead_of (a ∷ b ∷ s) =
    if separates rules.Either a && separates rules.Either b then double_lead a b s
    else (if is_letter a && nat_eq b 0x3A then DriveLead a s else NoLead)

-- how what follows `\\?\` begins: `UNC` and a separator, a drive, or neither
pub data VerbatimLeads : Type 0 where
  UncLead : List ℕ → VerbatimLeads
  DiskLead : ℕ → List ℕ → VerbatimLeads
  NameLead : VerbatimLeads

-- by its first part, and what follows that
abbrev pub verbatim_lead : List ℕ → List ℕ → VerbatimLeads
verbatim_lead [] after = NameLead
verbatim_lead (a ∷ []) after = NameLead
verbatim_lead (a ∷ b ∷ []) after = if is_letter a && nat_eq b 0x3A then DiskLead a after else NameLead
verbatim_lead (a ∷ b ∷ c ∷ []) [] = NameLead
verbatim_lead (a ∷ b ∷ c ∷ []) (d ∷ more) = if nat_eq a 0x55 && nat_eq b 0x4E && nat_eq c 0x43 then UncLead more else NameLead
verbatim_lead (a ∷ b ∷ c ∷ d ∷ part) after = NameLead

-- after two separators: a server and a share, neither empty
pub record IsUnc (s : List ℕ) (kind : Kind) (rest : List ℕ) : Type 0 where
  pub server : List ℕ
  pub separator : ℕ
  pub more : List ℕ
  pub share : List ℕ
  pub is : kind ≡ Unc server share
  pub first : IsField rules.Either s server (separator ∷ more)
  pub second : IsField rules.Either more share rest
  pub some_server : server ≢ []
  pub some_share : share ≢ []

-- the share, and what follows it; an empty share leaves its separator
abbrev pub IsShare : List ℕ → List ℕ → List ℕ → Type 0
IsShare [] share rest = (share ≡ []) × (rest ≡ [])
IsShare (c ∷ more) [] rest = (tail : List ℕ) × (IsField rules.Verbatim more [] tail × (rest ≡ c ∷ more))
IsShare (c ∷ more) (b ∷ share) rest = IsField rules.Verbatim more (b ∷ share) rest

-- after `\\?\UNC\`: a server and a share
pub record IsVerbatimUnc (s : List ℕ) (kind : Kind) (rest : List ℕ) : Type 0 where
  pub server : List ℕ
  pub after : List ℕ
  pub share : List ℕ
  pub is : kind ≡ VerbatimUnc server share
  pub first : IsField rules.Verbatim s server after
  pub second : IsShare after share rest

-- a name, up to a separator
pub record IsNamed (r : Rules) (Named : List ℕ → Kind) (s : List ℕ) (kind : Kind) (rest : List ℕ) : Type 0 where
  pub name : List ℕ
  pub is : kind ≡ Named name
  pub field : IsField r s name rest

abbrev pub IsVerbatimBy : VerbatimLeads → List ℕ → Kind → List ℕ → Type 0
IsVerbatimBy (UncLead more) s kind rest = IsVerbatimUnc more kind rest
IsVerbatimBy (DiskLead letter more) s kind rest = (kind ≡ VerbatimDisk (upper letter)) × (rest ≡ more)
IsVerbatimBy NameLead s kind rest = IsNamed rules.Verbatim Verbatim s kind rest

-- after `\\?\`
pub record IsVerbatim (s : List ℕ) (kind : Kind) (rest : List ℕ) : Type 0 where
  pub part : List ℕ
  pub after : List ℕ
  pub first : IsField rules.Either s part after
  pub is : IsVerbatimBy (verbatim_lead part after) s kind rest

abbrev pub IsPrefixBy : Lead → Kind → List ℕ → Type 0
IsPrefixBy (VerbatimLead s) kind rest = IsVerbatim s kind rest
IsPrefixBy (DeviceLead s) kind rest = IsNamed rules.Either Device s kind rest
IsPrefixBy (DoubleLead s) kind rest = IsUnc s kind rest
IsPrefixBy (DriveLead letter s) kind rest = (kind ≡ Disk (upper letter)) × (rest ≡ s)
IsPrefixBy NoLead kind rest = ⊥

-- the path begins with a prefix of this kind, and the rest follows it
abbrev pub IsPrefixOf : List ℕ → Kind → List ℕ → Type 0
IsPrefixOf s kind rest = IsPrefixBy (lead_of s) kind rest

-- the path begins with a prefix whose kind, and what follows it, are so
abbrev pub WithPrefix : whose.Style → List ℕ → (Kind → List ℕ → Type 0) → Type 0
WithPrefix style.Unix path P = ⊥
WithPrefix style.Windows path P = (kind : Kind) × ((rest : List ℕ) × (IsPrefixOf path kind rest × P kind rest))

-- the path begins with a prefix of such a kind
abbrev pub HasKind : whose.Style → List ℕ → (Kind → Type 0) → Type 0
HasKind w path P = WithPrefix w path (λ kind rest. P kind)

-- the path begins with a prefix that is so, or it has none and is so itself
abbrev pub EitherWay : whose.Style → List ℕ → (List ℕ → Type 0) → (Kind → List ℕ → Type 0) → Type 0
EitherWay style.Unix path Q P = Q path
EitherWay style.Windows path Q P =
    ((kind : Kind) × ((rest : List ℕ) × (IsPrefixOf path kind rest × P kind rest))) ⊎ (((kind : Kind) (rest : List ℕ) → ¬ (IsPrefixOf path kind rest)) × Q path)

-- what separates after a prefix
abbrev pub rules_of : Kind → Rules
rules_of (Verbatim name) = rules.Verbatim
rules_of (VerbatimUnc server share) = rules.Verbatim
rules_of (VerbatimDisk letter) = rules.Verbatim
rules_of (Device name) = rules.Either
rules_of (Unc server share) = rules.Either
rules_of (Disk letter) = rules.Either

-- the bytes begin with `\\?\`
abbrev pub begins_verbatim : List ℕ → Bool
begins_verbatim [] = false
begins_verbatim (a ∷ []) = false
begins_verbatim (a ∷ b ∷ []) = false
begins_verbatim (a ∷ b ∷ c ∷ []) = false
begins_verbatim (a ∷ b ∷ c ∷ d ∷ s) = nat_eq a 0x5C && nat_eq b 0x5C && nat_eq c 0x3F && nat_eq d 0x5C

-- the path begins with a prefix
abbrev pub IsPrefixed : whose.Style → List ℕ → Type 0
IsPrefixed style.Unix path = ⊥
IsPrefixed style.Windows path = (kind : Kind) × ((rest : List ℕ) × IsPrefixOf path kind rest)

-- the bytes of a path's prefix, none where it has none
abbrev pub IsRawPrefix : whose.Style → List ℕ → List ℕ → Type 0
IsRawPrefix w path raw = EitherWay w path (λ bare. raw ≡ []) (λ kind rest. path ≡ raw ++ rest)
