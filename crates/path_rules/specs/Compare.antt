-- Components compared (std's `Path::starts_with`, `Path::ends_with` and `==` of paths).
use Rattle.std.specs.Prelude.{◌≡◌, ℕ, List, [], ◌∷◌, reverse}
use Rattle.path_rules.specs.declared.rules.Style.{Style}
use Rattle.path_rules.specs.Component.{Item, Prefix, RootDir, CurDir, ParentDir, Normal}
use Rattle.path_rules.specs.Components.{AreComponents}
use Rattle.path_rules.specs.Prefix.{Kind, IsPrefixOf}

-- both begin with a prefix of one kind and the same parts: drives are the same in upper and lower case
pub record AreAlikePrefixes (s t : List ℕ) : Type 0 where
  pub kind : Kind
  pub after_first : List ℕ
  pub after_second : List ℕ
  pub first : IsPrefixOf s kind after_first
  pub second : IsPrefixOf t kind after_second

abbrev pub AreAlike : Item → Item → Type 0
AreAlike (Prefix s) (Prefix t) = AreAlikePrefixes s t
AreAlike RootDir RootDir = Unit {0}
AreAlike CurDir CurDir = Unit {0}
AreAlike ParentDir ParentDir = Unit {0}
AreAlike (Normal s) (Normal t) = s ≡ t
AreAlike x y = ⊥

-- the first components are alike these, one by one
abbrev pub StartsAlike : List Item → List Item → Type 0
StartsAlike xs [] = Unit {0}
StartsAlike [] (y ∷ ys) = ⊥
StartsAlike (x ∷ xs) (y ∷ ys) = AreAlike x y × StartsAlike xs ys

-- the last components are alike these
abbrev pub EndsAlike : List Item → List Item → Type 0
EndsAlike xs ys = StartsAlike (reverse xs) (reverse ys)

-- the path's components begin with the base's
pub record StartsWith (style : Style) (path base : List ℕ) : Type 0 where
  pub items : List Item
  pub base_items : List Item
  pub are : AreComponents style path items
  pub base_are : AreComponents style base base_items
  pub alike : StartsAlike items base_items

-- the path's components end with the child's
pub record EndsWith (style : Style) (path child : List ℕ) : Type 0 where
  pub items : List Item
  pub child_items : List Item
  pub are : AreComponents style path items
  pub child_are : AreComponents style child child_items
  pub alike : EndsAlike items child_items

-- as many components, alike one by one
abbrev pub AreAllAlike : List Item → List Item → Type 0
AreAllAlike [] [] = Unit {0}
AreAllAlike [] (y ∷ ys) = ⊥
AreAllAlike (x ∷ xs) [] = ⊥
AreAllAlike (x ∷ xs) (y ∷ ys) = AreAlike x y × AreAllAlike xs ys

-- the paths have as many components, alike one by one
pub record HaveAlikeComponents (style : Style) (path other : List ℕ) : Type 0 where
  pub items : List Item
  pub other_items : List Item
  pub are : AreComponents style path items
  pub other_are : AreComponents style other other_items
  pub alike : AreAllAlike items other_items

-- the component is no prefix
abbrev pub IsNoPrefix : Item → Type 0
IsNoPrefix (Prefix s) = ⊥
IsNoPrefix RootDir = Unit {0}
IsNoPrefix CurDir = Unit {0}
IsNoPrefix ParentDir = Unit {0}
IsNoPrefix (Normal s) = Unit {0}
