-- A path with another stem of its last name (CPython's `PurePath.with_stem`).
use Rattle.std.specs.Prelude.{◌≡◌, ◌⊎◌, ℕ, List, [], ◌∷◌, ◌++◌}
use Rattle.path_rules.specs.declared.rules.Style.{Style}
use Rattle.path_rules.specs.Component.{Item, Normal}
use Rattle.path_rules.specs.Components.{AreComponents}
use Rattle.path_rules.specs.Name.{IsStem}
use Rattle.path_building.specs.FileName.{IsNamed, IsKept}

-- the path's last name is its own stem and what comes after it; the path gets the name of the new stem and that
pub record IsNamedByStem (w : Style) (path stem made : List ℕ) : Type 0 where
  pub items : List Item
  pub name : List ℕ
  pub own : List ℕ
  pub after : List ℕ
  pub whole : AreComponents w path (items ++ Normal name ∷ [])
  pub own_is : IsStem name own
  pub joined : name ≡ own ++ after
  pub named : IsNamed w path (stem ++ after) made

-- a path without a last name stays
abbrev pub IsStemSet : Style → List ℕ → List ℕ → List ℕ → Type 0
IsStemSet w path stem made = IsNamedByStem w path stem made ⊎ IsKept w path made
