-- The next parent, as an option whose strings view sees as bytes.
use Rattle.std.proofs.Common.{◌<◌, ◌+◌, ℕ, List, length, Option, Some, None, MatchOption, arith}
use Rattle.std.specs.Option.{option_map}
use Rattle.path_rules.specs.declared.rules.Style.{Style}
use Rattle.path_rules.specs.Parent.{IsParent, HasNoParent}
use Rattle.path_rules.proofs.lemmas.LastNames.{parent_is_shorter}
use Rattle.os_path.specs.Ancestors.{IsNextParent, paths_left}

module _ {X : Type 0} (view : X → List ℕ) (w : Style) (path : List ℕ) where
  pub next_parent : (r : Option X) → MatchOption r (HasNoParent w path) (λ x. IsParent w path (view x)) → IsNextParent w path (option_map view r)
  next_parent None h = h
  next_parent (Some x) h = h

  pub fewer_left : (r : Option X) → MatchOption r (HasNoParent w path) (λ x. IsParent w path (view x)) → paths_left (option_map view r) < length path + 1
  fewer_left None h = omega arith
  fewer_left (Some x) h = let s = parent_is_shorter w path (view x) h in omega arith
