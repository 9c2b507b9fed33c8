-- A path below a base (typed-path's `join_checked`): the base's components, and after them names alone.
use Rattle.std.specs.Prelude.{◌≡◌, ℕ, false, List, ◌++◌}
use Rattle.std.specs.List.{AllByRecursion}
use Rattle.path_rules.specs.declared.rules.Style as whose
use Rattle.path_rules.specs.declared.rules.Style.TheVariants as style
use Rattle.path_rules.specs.Component.{Item, Prefix, RootDir, CurDir, ParentDir, Normal}
use Rattle.path_rules.specs.Components.{AreComponents}
use Rattle.path_building.specs.Beginning.{has_colon}
use Rattle.path_building.specs.Normal.{AreNames, AreNormalOf}
use Rattle.path_building.specs.Normalized.{IsNormalForm}
use Rattle.path_building.specs.Join.{IsRelativeTo, without_dot}
use Rattle.path_building.specs.Base.{HasNoNul, AreFree, IsBase, own_root}
use Rattle.path_building.specs.Written.{IsPathOf}

-- a name has no colon, after which the name of a stream comes
abbrev pub NamesNoStream : Item → Type 0
NamesNoStream (Prefix s) = Unit {0}
NamesNoStream RootDir = Unit {0}
NamesNoStream CurDir = Unit {0}
NamesNoStream ParentDir = Unit {0}
NamesNoStream (Normal s) = has_colon s ≡ false

-- no name of a Windows path has a colon
abbrev pub NameNoStream : whose.Style → List Item → Type 0
NameNoStream style.Unix items = Unit {0}
NameNoStream style.Windows items = AllByRecursion NamesNoStream items

-- a path without a prefix and a root leads to these names: each `..` has a name of the path before it to take
pub record LeadsInside (w : whose.Style) (path : List ℕ) (items names : List Item) : Type 0 where
  pub relative : IsRelativeTo w path
  pub are : AreComponents w path items
  pub normal : List Item
  pub form : AreNormalOf items normal
  pub is : names ≡ without_dot normal
  pub alone : AreNames names

-- and the path has no NUL, and on Windows none of its names has a colon or is reserved
pub record AreCheckedNames (w : whose.Style) (path : List ℕ) (names : List Item) : Type 0 where
  pub no_nul : HasNoNul path
  pub items : List Item
  pub inside : LeadsInside w path items names
  pub streams : NameNoStream w items
  pub free : AreFree w items

-- The joined path has the components of a complete base, and then the names, written with the main separator.
-- A base that is a prefix alone and begins with `\\?\` gets its root.
pub record IsCheckedJoin (w : whose.Style) (base path joined : List ℕ) : Type 0 where
  pub base_items : List Item
  pub names : List Item
  pub place : IsBase w base
  pub base_are : AreComponents w base base_items
  pub checked : AreCheckedNames w path names
  pub answers : IsPathOf w (base_items ++ (own_root base_items ++ names)) joined

-- the joined path has the base's components, and after them names alone
pub record IsBelowBase (w : whose.Style) (base joined : List ℕ) : Type 0 where
  pub base_items : List Item
  pub names : List Item
  pub base_are : AreComponents w base base_items
  pub are : AreComponents w joined (base_items ++ (own_root base_items ++ names))
  pub alone : AreNames names

-- the normal form begins with that of the base's components, and goes on with names
pub record BeginsBelow (items normal : List Item) : Type 0 where
  pub base : List Item
  pub names : List Item
  pub form : IsNormalForm items base
  pub alone : AreNames names
  pub is : normal ≡ base ++ (own_root items ++ names)
