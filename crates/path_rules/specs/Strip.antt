-- What of a path follows the components of a base (std's `Path::strip_prefix`).
use Rattle.std.specs.Prelude.{◌≡◌, ℕ, List, [], ◌∷◌, ◌++◌}
use Rattle.path_rules.specs.declared.rules.Rules.{Rules}
use Rattle.path_rules.specs.declared.rules.Style as whose
use Rattle.path_rules.specs.Component.{Item, Prefix, RootDir, components_in}
use Rattle.path_rules.specs.Components.{AreComponents}
use Rattle.path_rules.specs.Compare.{AreAllAlike}
use Rattle.path_rules.specs.Prefix.{IsPrefixed, IsRawPrefix}
use Rattle.path_rules.specs.Body.{HasBody, BeginsNamed, IsEndTrimmed}
use Rattle.path_rules.specs.Cut.{IsAsciiCut}

-- the rest of a path is all of it, what follows its prefix and begins with the root, or what begins with a name after the items
pub data IsRestAfter (w : whose.Style) (path before rest : List ℕ) (items more : List Item) : Type 0 where
  at_start : before ≡ [] → items ≡ [] → IsRestAfter w path before rest items more
  at_root : IsPrefixed w path → IsRawPrefix w path before → items ≡ Prefix before ∷ [] → (others : List Item) → more ≡ RootDir ∷ others → IsRestAfter w path before rest items more
  inside : (r : Rules) (body : List ℕ) → HasBody w path r body → components_in r rest ≡ more → BeginsNamed r rest → IsRestAfter w path before rest items more

-- the path's first components are alike the base's; the rest is the path after them, up to the end of its last component, and has these components in it
pub record IsStripped (w : whose.Style) (path base rest : List ℕ) (more : List Item) : Type 0 where
  pub before : List ℕ
  pub trimmed : IsEndTrimmed w path (before ++ rest)
  pub cut : IsAsciiCut before rest
  pub items : List Item
  pub whole : AreComponents w path (items ++ more)
  pub base_items : List Item
  pub base_are : AreComponents w base base_items
  pub alike : AreAllAlike items base_items
  pub after : IsRestAfter w (before ++ rest) before rest items more
