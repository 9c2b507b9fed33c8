-- The order of two paths by their components (std's `Ord` of `Path`).
use Rattle.std.specs.Prelude.{◌≡◌, ℕ, List}
use Rattle.std.specs.declared.cmp.Ordering.{Ordering}
use Rattle.path_rules.specs.declared.rules.Style.{Style}
use Rattle.path_rules.specs.Keys.{HasKeys, keys_cmp}

-- the order of the keys of both
pub record IsOrder (w : Style) (path other : List ℕ) (order : Ordering) : Type 0 where
  pub keys : List (List ℕ)
  pub other_keys : List (List ℕ)
  pub keyed : HasKeys w path keys
  pub other_keyed : HasKeys w other other_keys
  pub is : order ≡ keys_cmp keys other_keys
