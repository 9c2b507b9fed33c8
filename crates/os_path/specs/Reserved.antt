-- Paths that have a name which Windows keeps for itself (CPython 3.13's `isreserved`, of a whole path).
use Rattle.std.specs.Prelude.{◌⊎◌, ℕ, List, [], ◌∷◌}
use Rattle.path_rules.specs.declared.rules.Style.{Style}
use Rattle.path_rules.specs.declared.rules.Style.TheVariants as style
use Rattle.path_rules.specs.Component.{Item, Prefix, RootDir, CurDir, ParentDir, Normal}
use Rattle.path_rules.specs.Components.{AreComponents}
use Rattle.path_rules.specs.Reserved.{IsReserved}

-- the component is a reserved name
abbrev pub IsReservedItem : Item → Type 0
IsReservedItem (Prefix s) = ⊥
IsReservedItem RootDir = ⊥
IsReservedItem CurDir = ⊥
IsReservedItem ParentDir = ⊥
IsReservedItem (Normal s) = IsReserved s

-- one of the components is
abbrev pub HasReservedItem : List Item → Type 0
HasReservedItem [] = ⊥
HasReservedItem (x ∷ xs) = IsReservedItem x ⊎ HasReservedItem xs

-- a Windows path has a reserved name; a Unix path has none
abbrev pub IsReservedPath : Style → List ℕ → Type 0
IsReservedPath style.Unix path = ⊥
IsReservedPath style.Windows path = (items : List Item) × (AreComponents style.Windows path items × HasReservedItem items)
