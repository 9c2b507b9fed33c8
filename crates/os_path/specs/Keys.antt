-- What clauses see of a path that is compared by its components.
use Rattle.std.proofs.Common.{◌≡◌, ℕ, true, List}
use Rattle.std.specs.Ordering.{is_eq}
use Rattle.std.specs.Cmp.{IsTotalOrder, on_total}
use Rattle.std.specs.Cmp.Lexicographic.{lists_total, nat_list_cmp_total}
use Rattle.platform_str.specs.declared.platform.Platform.{Ghosts}
use Rattle.platform_str.specs.Strings.{path_bytes}
use Rattle.path_rules.specs.Keys.{keys_of, keys_cmp, keys_writes}
use Rattle.path_rules.specs.KeyLaws.{hashes_alike}
use Rattle.os_path.specs.declared.by_components.ByComponents.{ByComponents}

module _ {E : Type 0} {P : Ghosts E} where
  -- the keys of the path's components
  abbrev pub path_keys : ByComponents E P → List (List ℕ)
  path_keys x = keys_of x.keys

  -- the path's bytes
  abbrev pub compared_bytes : ByComponents E P → List ℕ
  compared_bytes x = path_bytes x.path

  -- paths are totally ordered by these keys
  pub by_path_keys_total : IsTotalOrder (λ (x y : ByComponents E P). keys_cmp (path_keys x) (path_keys y))
  by_path_keys_total = on_total path_keys (lists_total nat_list_cmp_total)

  -- equal paths hash alike
  pub path_hashes_alike : (x y : ByComponents E P) → is_eq (keys_cmp (path_keys x) (path_keys y)) ≡ true → keys_writes (path_keys x) ≡ keys_writes (path_keys y)
  path_hashes_alike x y h = hashes_alike x.keys y.keys h
