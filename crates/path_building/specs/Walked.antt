-- A walk over the components of a path that is put below a base: where they lead, or the first that is at fault. Step words: no public contract names them.
use Rattle.std.specs.Prelude.{◌≡◌, ℕ, Bool, true, false, List, [], ◌∷◌, ◌++◌, Some, None, length, reverse}
use Rattle.std.specs.List.{AllByRecursion}
use Rattle.path_rules.specs.declared.rules.Style.{Style}
use Rattle.path_rules.specs.Component.{Item}
use Rattle.path_building.specs.Spelled.{resolve}
use Rattle.path_building.specs.Faults.{IsFit, Leaves, IsStream, IsReservedName}
use Rattle.path_building.specs.declared.walk.NameError.{NameError}
use Rattle.path_building.specs.declared.walk.NameError.TheVariants as error

-- all are fit, and lead to these names
pub record LeadTo (w : Style) (items names : List Item) : Type 0 where
  pub fit : AllByRecursion (IsFit w) items
  pub leads : resolve [] items ≡ Some (reverse names)

-- the component at the index is at fault after the names that those before it lead to
pub record StopsAt (w : Style) (items : List Item) (index : ℕ) (IsFault : List Item → Item → Type 0) : Type 0 where
  pub front : List Item
  pub item : Item
  pub behind : List Item
  pub names : List Item
  pub joined : items ≡ front ++ item ∷ behind
  pub at : index ≡ length front
  pub before : LeadTo w front names
  pub fault : IsFault names item

-- why the walk doesn't come to its end
abbrev pub IsWalkFault : Style → List Item → NameError → Type 0
IsWalkFault w items (error.Nul index) = ⊥
IsWalkFault w items error.Prefix = ⊥
IsWalkFault w items error.Root = ⊥
IsWalkFault w items (error.Leaves index) = StopsAt w items index Leaves
IsWalkFault w items (error.Stream index) = StopsAt w items index (IsStream w)
IsWalkFault w items (error.Reserved index) = StopsAt w items index (IsReservedName w)
IsWalkFault w items error.Memory = Unit {0}

-- what a component makes of the names before it, from the last to the first
abbrev pub Takes : Bool → List Item → Item → List Item → Type 0
Takes true stack x new = resolve stack (x ∷ []) ≡ Some new
Takes false stack x new = resolve stack (x ∷ []) ≡ None

-- so far
pub record IsWalkedTo (w : Style) (items names left : List Item) (index : ℕ) : Type 0 where
  pub front : List Item
  pub joined : items ≡ front ++ left
  pub at : index ≡ length front
  pub before : LeadTo w front names
