-- A path with another last name, or another extension of it (std's `PathBuf::set_file_name`, `PathBuf::set_extension` and `PathBuf::add_extension`).
use Rattle.std.specs.Prelude.{◌≡◌, ◌≢◌, ◌⊎◌, ℕ, Bool, false, IsTrue, List, [], ◌∷◌, ◌++◌, take, drop}
use Rattle.path_rules.specs.declared.rules.Style.{Style}
use Rattle.path_rules.specs.Component.{Item, Normal}
use Rattle.path_rules.specs.Components.{AreComponents}
use Rattle.path_rules.specs.Cut.{IsAsciiCut}
use Rattle.path_rules.specs.Parent.{IsParent, HasFileName, HasNoFileName}
use Rattle.path_rules.specs.Name.{IsStem}
use Rattle.path_building.specs.Join.{IsJoin}

-- what a last name is put after: the parent of a path that ends in a name, any other path itself
abbrev pub IsNameBase : Style → List ℕ → List ℕ → Type 0
IsNameBase w path base = (((name : List ℕ) × HasFileName w path name) × IsParent w path base) ⊎ (HasNoFileName w path × (base ≡ path))

-- the path with this last name
abbrev pub IsNamed : Style → List ℕ → List ℕ → List ℕ → Type 0
IsNamed w path name named = (base : List ℕ) × (IsNameBase w path base × IsJoin w base name named)

-- the path's last name follows these bytes; what comes after it names nothing
pub record IsFileNameAt (w : Style) (path before name after : List ℕ) : Type 0 where
  pub joined : path ≡ before ++ (name ++ after)
  pub cut : IsAsciiCut (before ++ name) after
  pub items : List Item
  pub are : AreComponents w (before ++ name) (items ++ Normal name ∷ [])
  pub whole : AreComponents w path (items ++ Normal name ∷ [])

-- the path's last name ends before this index
abbrev pub IsNameEnd : Style → List ℕ → ℕ → List ℕ → Type 0
IsNameEnd w path end name = (before : List ℕ) × ((take end path ≡ before ++ name) × IsFileNameAt w path before name (drop end path))

-- a dot and the extension; nothing for an empty one
abbrev pub dotted : List ℕ → List ℕ
dotted [] = []
dotted (b ∷ s) = 0x2E ∷ b ∷ s

-- the path up to the stem of its last name, a dot and the extension
pub record IsStemExtended (w : Style) (path extension extended : List ℕ) : Type 0 where
  pub before : List ℕ
  pub name : List ℕ
  pub after : List ℕ
  pub stem : List ℕ
  pub at : IsFileNameAt w path before name after
  pub stem_is : IsStem name stem
  pub is : extended ≡ before ++ (stem ++ dotted extension)

-- the path up to its last name, a dot and the extension; the path itself where the extension is empty
pub record IsNameExtended (w : Style) (path extension extended : List ℕ) : Type 0 where
  pub before : List ℕ
  pub name : List ℕ
  pub after : List ℕ
  pub at : IsFileNameAt w path before name after
  pub is : ((extension ≡ []) × (extended ≡ path)) ⊎ ((extension ≢ []) × (extended ≡ before ++ (name ++ dotted extension)))

-- a path without a last name stays
abbrev pub IsKept : Style → List ℕ → List ℕ → Type 0
IsKept w path kept = HasNoFileName w path × (kept ≡ path)

-- the path with the extension of its last name replaced by this one, and whether it has a last name
abbrev pub IsExtensionSet : Style → List ℕ → List ℕ → List ℕ → Bool → Type 0
IsExtensionSet w path extension result is_set = (IsTrue is_set × IsStemExtended w path extension result) ⊎ ((is_set ≡ false) × IsKept w path result)

-- the path with this extension after its last name, and whether it has one
abbrev pub IsExtensionAdded : Style → List ℕ → List ℕ → List ℕ → Bool → Type 0
IsExtensionAdded w path extension result is_added = (IsTrue is_added × IsNameExtended w path extension result) ⊎ ((is_added ≡ false) × IsKept w path result)
