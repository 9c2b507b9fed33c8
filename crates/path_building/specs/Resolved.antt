-- A path after a verbatim one, which Windows takes as it is written: `.` and `..` are resolved where it is joined (std's `PathBuf::push`).
use Rattle.std.specs.Prelude.{◌≡◌, ℕ, List, [], ◌∷◌, reverse}
use Rattle.path_rules.specs.declared.rules.Style.TheVariants.{Windows}
use Rattle.path_rules.specs.Component.{Item, Prefix, RootDir, CurDir, ParentDir, Normal}
use Rattle.path_rules.specs.Components.{AreComponents}
use Rattle.path_building.specs.Written.{written}

-- the first is no name
abbrev pub IsNoName : List Item → Type 0
IsNoName [] = Unit {0}
IsNoName (Prefix s ∷ xs) = Unit {0}
IsNoName (RootDir ∷ xs) = Unit {0}
IsNoName (CurDir ∷ xs) = Unit {0}
IsNoName (ParentDir ∷ xs) = Unit {0}
IsNoName (Normal s ∷ xs) = ⊥

-- the base's components, and after them these of a path, from the last to the first, are resolved to these: a name adds itself, `.` is left out, `..` takes a name before it away, and a root all but the base's prefix
pub data ResolvesTo (base : List Item) : List Item → List Item → Type 0 where
  nothing : ResolvesTo base [] (reverse base)
  root : {s : List ℕ} {xs : List Item} → base ≡ Prefix s ∷ xs → ResolvesTo base (RootDir ∷ []) (RootDir ∷ Prefix s ∷ [])
  here : {xs ys : List Item} → ResolvesTo base xs ys → ResolvesTo base (CurDir ∷ xs) ys
  name : {s : List ℕ} {xs ys : List Item} → ResolvesTo base xs ys → ResolvesTo base (Normal s ∷ xs) (Normal s ∷ ys)
  up : {s : List ℕ} {xs ys : List Item} → ResolvesTo base xs (Normal s ∷ ys) → ResolvesTo base (ParentDir ∷ xs) ys
  stays : {xs ys : List Item} → ResolvesTo base xs ys → IsNoName ys → ResolvesTo base (ParentDir ∷ xs) ys

-- names after a prefix are below its root
abbrev pub below_root : List Item → List Item
below_root (Prefix s ∷ Normal t ∷ xs) = Prefix s ∷ RootDir ∷ Normal t ∷ xs
below_root xs = xs

-- the base's components, and after them the path's, as they are resolved
pub record AreResolved (base path : List ℕ) (left : List Item) : Type 0 where
  pub base_items : List Item
  pub items : List Item
  pub base_are : AreComponents Windows base base_items
  pub are : AreComponents Windows path items
  pub form : ResolvesTo base_items (reverse items) (reverse left)

-- they are written with `\`
pub record IsResolved (base path joined : List ℕ) : Type 0 where
  pub left : List Item
  pub resolved : AreResolved base path left
  pub is : joined ≡ written 0x5C (below_root left)

-- the joined path has them as its components
pub record HasResolved (base path joined : List ℕ) : Type 0 where
  pub left : List Item
  pub resolved : AreResolved base path left
  pub are : AreComponents Windows joined (below_root left)
