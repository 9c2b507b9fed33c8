-- The bytes that a path of given components is written with. Step words: no public contract names them.
use Rattle.std.specs.Prelude.{◌≡◌, ◌≢◌, ℕ, Bool, true, false, List, [], ◌∷◌, ◌++◌, Option, Some, None}
use Rattle.std.specs.List.{AllByRecursion}
use Rattle.path_rules.specs.declared.rules.Rules.{Rules}
use Rattle.path_rules.specs.Separators.{IsPlain}
use Rattle.path_rules.specs.declared.head.Start.{Start}
use Rattle.path_rules.specs.declared.head.Start.TheVariants.{Root, Dot, Nothing}
use Rattle.path_rules.specs.declared.head.Head.{Head}
use Rattle.path_rules.specs.declared.rules.Style as whose
use Rattle.path_rules.specs.declared.rules.Style.TheVariants as style
use Rattle.path_building.specs.Normalized.{BeginsWithColon}
use Rattle.path_rules.specs.Component.{Item, Prefix, RootDir, CurDir, ParentDir, Normal, named}
use Rattle.path_rules.specs.Prefix.{Kind, IsPrefixOf}
use Rattle.path_rules.specs.Components.{AreComponents}
use Rattle.path_building.specs.Written.{spelling, joined_names, HasEmptyShare, object_dir, IsPathOf}

-- the part that a component is written as names it
pub record IsSpelled (r : Rules) (x : Item) : Type 0 where
  pub plain : IsPlain r (spelling x)
  pub names : named r (spelling x) ≡ Some x

abbrev pub AreSpelled : Rules → List Item → Type 0
AreSpelled r xs = AllByRecursion (IsSpelled r) xs

-- the root, twice after a prefix that would grow
abbrev pub root_bytes : ℕ → Bool → List ℕ
root_bytes c false = c ∷ []
root_bytes c true = c ∷ c ∷ []

-- what is written before the names
abbrev pub start_bytes : ℕ → Start → Bool → List Item → List ℕ
start_bytes c Root doubled [] = c ∷ []
start_bytes c Root doubled (x ∷ xs) = root_bytes c doubled
start_bytes c Dot doubled [] = 0x2E ∷ []
start_bytes c Dot doubled (x ∷ xs) = 0x2E ∷ c ∷ []
start_bytes c Nothing doubled names = []

-- a path after its prefix
abbrev pub after_bytes : ℕ → Start → Bool → List Item → List ℕ
after_bytes c start doubled names = start_bytes c start doubled names ++ joined_names c names

-- before names the root is written twice after a prefix without a share, and only there
abbrev pub DoublesRoot : whose.Style → List ℕ → Bool → Type 0
DoublesRoot style.Unix path doubled = doubled ≡ false
DoublesRoot style.Windows path doubled = (doubled ≡ true → HasEmptyShare path) × (HasEmptyShare path → doubled ≡ true)

-- a root without a prefix comes before the name `??`
abbrev pub ObjectNext : whose.Style → List ℕ → Start → List Item → Type 0
ObjectNext style.Unix prefix start names = ⊥
ObjectNext style.Windows [] Root (Normal s ∷ xs) = s ≡ object_dir
ObjectNext style.Windows prefix start names = ⊥

-- a name that alone begins with a prefix
abbrev pub IsReadAsPrefix : whose.Style → List ℕ → Type 0
IsReadAsPrefix style.Unix s = ⊥
IsReadAsPrefix style.Windows s = (kind : Kind) × ((rest : List ℕ) × IsPrefixOf s kind rest)

-- the first component is such a name
abbrev pub BeginsAsPrefix : whose.Style → List Item → Type 0
BeginsAsPrefix w [] = ⊥
BeginsAsPrefix w (Prefix s ∷ xs) = ⊥
BeginsAsPrefix w (RootDir ∷ xs) = ⊥
BeginsAsPrefix w (CurDir ∷ xs) = ⊥
BeginsAsPrefix w (ParentDir ∷ xs) = ⊥
BeginsAsPrefix w (Normal s ∷ xs) = IsReadAsPrefix w s

-- how a path may start again: one without a prefix in any way that gives it none, one with a prefix as it did
abbrev pub MayStart : whose.Style → Head → Start → List Item → Type 0
MayStart w head start names = (head.prefix.now ≡ [] → start ≡ Nothing → ¬ (BeginsAsPrefix w names)) × (head.prefix.now ≢ [] → start ≡ head.start)

-- the same, but a first name with a colon doesn't follow nothing
abbrev pub IsShieldedStart : whose.Style → Head → Start → List Item → Type 0
IsShieldedStart w head start names = (head.prefix.now ≡ [] → start ≡ Nothing → ¬ (BeginsWithColon w names)) × (head.prefix.now ≢ [] → start ≡ head.start)

-- names from the last to the first: what further components make of them; none where a `..` has no name to take
abbrev pub resolve : List Item → List Item → Option (List Item)
resolve stack [] = Some stack
resolve stack (Normal s ∷ xs) = resolve (Normal s ∷ stack) xs
resolve [] (ParentDir ∷ xs) = None
resolve (y ∷ stack) (ParentDir ∷ xs) = resolve stack xs
resolve stack (x ∷ xs) = resolve stack xs

-- the same, where a `..` that has no name to take stays, but not at a root
abbrev pub go_up : Bool → List Item → List Item
go_up rooted (Normal s ∷ stack) = stack
go_up true stack = stack
go_up false stack = ParentDir ∷ stack

abbrev pub cleaned : Bool → List Item → List Item → List Item
cleaned rooted stack [] = stack
cleaned rooted stack (Normal s ∷ xs) = cleaned rooted (Normal s ∷ stack) xs
cleaned rooted stack (ParentDir ∷ xs) = cleaned rooted (go_up rooted stack) xs
cleaned rooted stack (x ∷ xs) = cleaned rooted stack xs

-- the start of a path without the `.`
abbrev pub cleaned_start : Start → List Item
cleaned_start Root = RootDir ∷ []
cleaned_start Dot = []
cleaned_start Nothing = []

-- a path after a verbatim base: which of the base's names are kept, and with what the joined path starts
abbrev pub kept_names : Start → List Item → List Item
kept_names Root names = []
kept_names Dot names = names
kept_names Nothing names = names

abbrev pub start_below : Start → Start → List Item → Start
start_below Root start names = Root
start_below Dot start [] = start
start_below Dot start (x ∷ xs) = Root
start_below Nothing start [] = start
start_below Nothing start (x ∷ xs) = Root

-- the path's components and then these names, as they are written
pub record IsNamesAfter (w : whose.Style) (path : List ℕ) (names : List Item) (joined : List ℕ) : Type 0 where
  pub items : List Item
  pub are : AreComponents w path items
  pub answers : IsPathOf w (items ++ names) joined
