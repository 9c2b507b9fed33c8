-- The keys by which paths are compared, component by component (std's `==`, `Ord` and `Hash` of paths).
use Rattle.std.specs.Prelude.{◌≡◌, ℕ, List, [], ◌∷◌, ◌++◌, map, Option, Some, None}
use Rattle.std.specs.Option.{option_map}
use Rattle.std.specs.Ordering.{nat_cmp}
use Rattle.std.specs.Cmp.Lexicographic.{slice_cmp}
use Rattle.std.specs.declared.cmp.Ordering.{Ordering}
use Rattle.std.specs.Hash as fed
use Rattle.path_rules.specs.declared.rules.Style.{Style}
use Rattle.path_rules.specs.declared.by_components.ByComponents.{ByComponents}
use Rattle.path_rules.specs.Component.{Item, Prefix, RootDir, CurDir, ParentDir, Normal}
use Rattle.path_rules.specs.Components.{AreComponents}
use Rattle.path_rules.specs.Heads.{items_of}
use Rattle.path_rules.specs.Prefix.{Kind, Verbatim, VerbatimUnc, VerbatimDisk, Device, Unc, Disk, IsPrefixOf}
use Rattle.path_rules.specs.PrefixViews.{kind_of}

-- the rank of a kind of prefix, in the order of std's `Prefix`
abbrev pub rank_of : Kind → ℕ
rank_of (Verbatim name) = 0
rank_of (VerbatimUnc server share) = 1
rank_of (VerbatimDisk letter) = 2
rank_of (Device name) = 3
rank_of (Unc server share) = 4
rank_of (Disk letter) = 5

-- the letter of a drive; 0 for another kind
abbrev pub letter_of : Kind → ℕ
letter_of (Verbatim name) = 0
letter_of (VerbatimUnc server share) = 0
letter_of (VerbatimDisk letter) = letter
letter_of (Device name) = 0
letter_of (Unc server share) = 0
letter_of (Disk letter) = letter

-- the name or the server
abbrev pub name_of : Kind → List ℕ
name_of (Verbatim name) = name
name_of (VerbatimUnc server share) = server
name_of (VerbatimDisk letter) = []
name_of (Device name) = name
name_of (Unc server share) = server
name_of (Disk letter) = []

-- the share
abbrev pub share_of : Kind → List ℕ
share_of (Verbatim name) = []
share_of (VerbatimUnc server share) = share
share_of (VerbatimDisk letter) = []
share_of (Device name) = []
share_of (Unc server share) = share
share_of (Disk letter) = []

-- the keys of a prefix: before those of all other components
abbrev pub kind_keys : Kind → List (List ℕ)
kind_keys k = (rank_of k ∷ name_of k) ∷ (letter_of k ∷ share_of k) ∷ []

abbrev pub prefix_keys : Option Kind → List (List ℕ)
prefix_keys None = []
prefix_keys (Some k) = kind_keys k

-- the key of any other component: a root, `.`, `..`, names, in this order
abbrev pub item_key : Item → List ℕ
item_key RootDir = 6 ∷ []
item_key CurDir = 7 ∷ []
item_key ParentDir = 8 ∷ []
item_key (Normal s) = 9 ∷ s
item_key (Prefix s) = 10 ∷ s

abbrev pub item_keys : List Item → List (List ℕ)
item_keys items = map item_key items

-- the keys of a path that was taken apart
abbrev pub keys_of : ByComponents → List (List ℕ)
keys_of x = prefix_keys (option_map kind_of x.prefix) ++ item_keys (items_of x.below)

-- keys are ordered as lists of bytes are, and lists of keys by them
abbrev pub key_cmp : List ℕ → List ℕ → Ordering
key_cmp = slice_cmp nat_cmp

abbrev pub keys_cmp : List (List ℕ) → List (List ℕ) → Ordering
keys_cmp = slice_cmp (slice_cmp nat_cmp)

-- what a hasher is fed of keys
abbrev pub key_writes : List ℕ → fed.HashWrites
key_writes [] = []
key_writes (rank ∷ name) = fed.u8 rank ++ fed.slice fed.u8 name

abbrev pub keys_writes : List (List ℕ) → fed.HashWrites
keys_writes [] = []
keys_writes (k ∷ ks) = key_writes k ++ keys_writes ks

-- these are the components' keys
abbrev pub AreKeys : List Item → List (List ℕ) → Type 0
AreKeys [] keys = keys ≡ []
AreKeys (Prefix s ∷ xs) keys = (kind : Kind) × ((rest : List ℕ) × (IsPrefixOf s kind rest × (keys ≡ kind_keys kind ++ item_keys xs)))
AreKeys (RootDir ∷ xs) keys = keys ≡ item_keys (RootDir ∷ xs)
AreKeys (CurDir ∷ xs) keys = keys ≡ item_keys (CurDir ∷ xs)
AreKeys (ParentDir ∷ xs) keys = keys ≡ item_keys (ParentDir ∷ xs)
AreKeys (Normal s ∷ xs) keys = keys ≡ item_keys (Normal s ∷ xs)

-- the keys of a path
pub record HasKeys (style : Style) (path : List ℕ) (keys : List (List ℕ)) : Type 0 where
  pub items : List Item
  pub are : AreComponents style path items
  pub keyed : AreKeys items keys
