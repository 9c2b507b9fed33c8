-- The components of a path by their indices: a kind's number, and where the component starts and ends.
use Rattle.std.specs.Prelude.{◌≡◌, ℕ, ◌+◌, ◌-◌, nat_eq, if◌then◌else◌, List, [], ◌∷◌, ◌++◌, length, Option, Some, None}
use Rattle.std.specs.Option.{option_map}
use Rattle.std.specs.List.{slice_split, cons_option}
use Rattle.path_rules.specs.declared.rules.Rules.{Rules}
use Rattle.path_rules.specs.declared.rules.Style.{Style}
use Rattle.path_rules.specs.declared.head.Start.{Start}
use Rattle.path_rules.specs.declared.head.Start.TheVariants.{Root, Dot, Nothing}
use Rattle.path_rules.specs.declared.head.Head.{Head}
use Rattle.path_rules.specs.HeadParts.{IsHead}
use Rattle.path_rules.specs.Separators.{separates}
use Rattle.path_rules.specs.Component.{Item, Prefix, RootDir, CurDir, ParentDir, Normal, named}
use Rattle.osbytes_c.specs.declared.paths.part_list.Part.{Part}

-- 1 a prefix, 2 the root, 3 `.`, 4 `..`, 5 a name
abbrev pub kind_number : Item → ℕ
kind_number (Prefix s) = 1
kind_number RootDir = 2
kind_number CurDir = 3
kind_number ParentDir = 4
kind_number (Normal s) = 5

-- a component of this kind, from an index up to another
abbrev pub part_of : ℕ → ℕ → ℕ → Part
part_of kind start end = record { kind = kind; start = start; end = end }

-- what the bytes between two separators name; the first byte is at this index
abbrev pub part_named : Rules → ℕ → List ℕ → Option Part
part_named r at s = option_map (λ x. part_of (kind_number x) at (at + length s)) (named r s)

-- what the bytes between several separators name; the first run begins at this index, and each other run after a separator
abbrev pub parts_of : Rules → ℕ → List (List ℕ) → List Part
parts_of r at [] = []
parts_of r at (s ∷ others) = cons_option (part_named r at s) (parts_of r (at + (length s + 1)) others)

-- the components of bytes that begin at an index, after the prefix and the root
abbrev pub parts_in : Rules → ℕ → List ℕ → List Part
parts_in r at s = parts_of r at (slice_split (separates r) s)

-- a prefix with this number of bytes, if there is one
abbrev pub prefix_parts : ℕ → List Part
prefix_parts n = if nat_eq n 0 then [] else part_of 1 0 n ∷ []

-- the root, or the `.` at the start, from the prefix up to what follows; a root that a prefix implies has no byte
abbrev pub start_parts : Start → ℕ → ℕ → List Part
start_parts Root i j = part_of 2 i j ∷ []
start_parts Dot i j = part_of 3 i j ∷ []
start_parts Nothing i j = []

-- the components of a path that is taken apart so, in which the body begins at an index
abbrev pub head_parts : Head → ℕ → List Part
head_parts h at = (prefix_parts (length h.prefix.now) ++ start_parts h.start (length h.prefix.now) at) ++ parts_in h.rules at h.body.now

-- the components of a path, in order: its prefix, its root or `.` at the start, and those of what follows, up to the path's end
pub record AreParts (style : Style) (path : List ℕ) (parts : List Part) : Type 0 where
  pub head : Head
  pub is : IsHead style path head
  pub are : parts ≡ head_parts head (length path - length head.body.now)

-- the component is no name
abbrev pub IsNoName : Part → Type 0
IsNoName p = ¬ (p.kind ≡ 5)

-- the last component is this one, a name
pub record IsLastName (style : Style) (path : List ℕ) (p : Part) : Type 0 where
  pub before : List Part
  pub are : AreParts style path (before ++ p ∷ [])
  pub name : p.kind ≡ 5

-- there is no component, or the last one is no name
pub record HasNoLastName (style : Style) (path : List ℕ) : Type 0 where
  pub parts : List Part
  pub are : AreParts style path parts
  pub none : (before : List Part) (p : Part) → parts ≡ before ++ p ∷ [] → IsNoName p

-- the last of these components, if there are any
abbrev pub IsLastOf : List Part → Option Part → Type 0
IsLastOf parts None = parts ≡ []
IsLastOf parts (Some p) = (before : List Part) × (parts ≡ before ++ p ∷ [])
