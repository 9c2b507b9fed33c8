-- The components of a path.
use Rattle.std.specs.Prelude.{◌≡◌, ℕ, nat_eq, ◌&&◌, if◌then◌else◌, List, [], ◌∷◌, ◌++◌}
use denote.Ref.{Bor}
use Rattle.path_rules.specs.declared.rules.Rules.{Rules}
use Rattle.path_rules.specs.declared.rules.Rules.TheVariants as rules
use Rattle.path_rules.specs.declared.rules.Style as whose
use Rattle.path_rules.specs.declared.rules.Style.TheVariants as style
use Rattle.path_rules.specs.declared.head.Start.{Start}
use Rattle.path_rules.specs.declared.head.Start.TheVariants.{Root, Dot, Nothing}
use Rattle.path_rules.specs.declared.prefix.Prefix as held
use Rattle.path_rules.specs.Separators.{separates}
use Rattle.path_rules.specs.Component.{Item, Prefix, components_in}
use Rattle.path_rules.specs.Heads.{start_items}
use Rattle.path_rules.specs.Prefix.{Kind, Verbatim, VerbatimUnc, VerbatimDisk, Device, Unc, Disk, IsPrefixOf, rules_of}
use Rattle.path_rules.specs.PrefixViews.{kind_of}

-- with what a path without a prefix starts, by its first bytes
abbrev pub start_of : Rules → List ℕ → Start
start_of r [] = Nothing
start_of r (b ∷ []) = if separates r b then Root else (if nat_eq b 0x2E then Dot else Nothing)
start_of r (b ∷ c ∷ s) = if separates r b then Root else (if nat_eq b 0x2E && separates r c then Dot else Nothing)

abbrev pub after_start : Start → List ℕ → List ℕ
after_start Nothing s = s
after_start Root [] = []
after_start Root (b ∷ s) = s
after_start Dot [] = []
after_start Dot (b ∷ s) = s

abbrev pub IsStartOf : Rules → List ℕ → Start → List ℕ → Type 0
IsStartOf r s start body = (start ≡ start_of r s) × (body ≡ after_start start s)

-- without a prefix: the start, and the components of the body
abbrev pub plain_components : Rules → List ℕ → List Item
plain_components r s = start_items (start_of r s) ++ components_in r (after_start (start_of r s) s)

-- the root that a prefix has without a separator after it
abbrev pub implied_root : Kind → Start
implied_root (Verbatim name) = Nothing
implied_root (VerbatimUnc server share) = Nothing
implied_root (VerbatimDisk letter) = Nothing
implied_root (Device name) = Root
implied_root (Unc server share) = Root
implied_root (Disk letter) = Nothing

-- the root after a prefix, by what follows it, and the body
abbrev pub root_of : Kind → List ℕ → Start
root_of kind [] = implied_root kind
root_of kind (b ∷ s) = if separates rules.Either b then Root else implied_root kind

abbrev pub after_root : List ℕ → List ℕ
after_root [] = []
after_root (b ∷ s) = if separates rules.Either b then s else b ∷ s

abbrev pub IsRootOf : held.Prefix (Bor (List ℕ)) → List ℕ → Start → List ℕ → Type 0
IsRootOf prefix rest start body = (start ≡ root_of (kind_of prefix) rest) × (body ≡ after_root rest)

-- the components of a Unix path
abbrev pub AreUnixComponents : List ℕ → List Item → Type 0
AreUnixComponents s items = items ≡ plain_components rules.Slash s

-- the components of a Windows path that has a prefix
pub record ArePrefixed (s : List ℕ) (items : List Item) : Type 0 where
  pub kind : Kind
  pub raw : List ℕ
  pub rest : List ℕ
  pub joined : s ≡ raw ++ rest
  pub prefix : IsPrefixOf s kind rest
  pub are : items ≡ Prefix raw ∷ (start_items (root_of kind rest) ++ components_in (rules_of kind) (after_root rest))

-- the components of a Windows path that has none
pub record AreBare (s : List ℕ) (items : List Item) : Type 0 where
  pub none : (kind : Kind) (rest : List ℕ) → ¬ (IsPrefixOf s kind rest)
  pub are : items ≡ plain_components rules.Either s

-- the components of a Windows path
pub data AreWindowsComponents (s : List ℕ) (items : List Item) : Type 0 where
  prefixed : ArePrefixed s items → AreWindowsComponents s items
  bare : AreBare s items → AreWindowsComponents s items

-- the components of a path
abbrev pub AreComponents : whose.Style → List ℕ → List Item → Type 0
AreComponents style.Unix s items = AreUnixComponents s items
AreComponents style.Windows s items = AreWindowsComponents s items

-- a Unix path that begins neither with a root nor with `.`
abbrev pub IsRelative : List ℕ → Type 0
IsRelative t = start_of rules.Slash t ≡ Nothing
