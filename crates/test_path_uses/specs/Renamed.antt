-- Paths with another last name or extension.
use Rattle.std.specs.Prelude.{◌≡◌, ℕ, List, [], ◌∷◌, ◌++◌}
use Rattle.path_rules.specs.Component.{Item, Normal}
use Rattle.path_rules.specs.Components.{AreUnixComponents}
use Rattle.path_building.specs.FileName.{dotted}

-- the Unix path has another last name, if that alone is a name
abbrev pub IsRenamed : List ℕ → List ℕ → List ℕ → Type 0
IsRenamed path name made = (items : List Item) (last : List ℕ) → AreUnixComponents path (items ++ Normal last ∷ []) → AreUnixComponents name (Normal name ∷ []) → AreUnixComponents made (items ++ Normal name ∷ [])

-- the extension comes after a part of the path in place of what does
abbrev pub IsExtendedAfter : List ℕ → List ℕ → List ℕ → List ℕ → Type 0
IsExtendedAfter path part extension made = (before : List ℕ) × ((after : List ℕ) × ((path ≡ before ++ (part ++ after)) × (made ≡ before ++ (part ++ dotted extension))))
