-- The order of paths by their keys is total, and equal paths hash alike.
use Rattle.std.proofs.Common.{◌≡◌, ℕ, true, T, List, refl, sym, ap, subst}
use Rattle.std.specs.Ordering.{is_eq}
use Rattle.std.specs.Cmp.{IsTotalOrder, on_total}
use Rattle.std.specs.Cmp.Lexicographic.{lists_total, nat_list_cmp_total}
use Rattle.std.specs.FinMap.{slice_cmp-IsAntisymmetric, nat_cmp-IsAntisymmetric}
use Rattle.std.specs.declared.cmp.Ordering.{Ordering}
use Rattle.std.specs.declared.cmp.Ordering.TheVariants.{Less, Equal, Greater}
use Rattle.path_rules.specs.declared.by_components.ByComponents.{ByComponents}
use Rattle.path_rules.specs.Keys.{keys_of, keys_cmp, keys_writes}

-- paths are totally ordered by their keys
pub by_keys_total : IsTotalOrder (λ x y. keys_cmp (keys_of x) (keys_of y))
by_keys_total = on_total keys_of (lists_total nat_list_cmp_total)

equal_of : (o : Ordering) → is_eq o ≡ true → o ≡ Equal
equal_of Less h = absurd (subst T (sym h) tt)
equal_of Equal h = refl
equal_of Greater h = absurd (subst T (sym h) tt)

-- keys that are ordered as equal are equal
pub same_keys : (xs ys : List (List ℕ)) → is_eq (keys_cmp xs ys) ≡ true → xs ≡ ys
same_keys xs ys h = slice_cmp-IsAntisymmetric (slice_cmp-IsAntisymmetric nat_cmp-IsAntisymmetric) xs ys (equal_of (keys_cmp xs ys) h)

-- equal paths hash alike
pub hashes_alike : (x y : ByComponents) → is_eq (keys_cmp (keys_of x) (keys_of y)) ≡ true → keys_writes (keys_of x) ≡ keys_writes (keys_of y)
hashes_alike x y h = ap keys_writes (same_keys (keys_of x) (keys_of y) h)
