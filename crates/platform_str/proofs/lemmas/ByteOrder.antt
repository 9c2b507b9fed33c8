-- The order of lists of bytes, as the derives build it.
use Rattle.platform_str.proofs.Common.{◌≡◌, ℕ, List, Some, refl, ap, ◌∙◌}
use Rattle.std.specs.{Ordering.nat_cmp, Ordering.partial_ordering_then, declared.cmp.Ordering.Ordering, declared.cmp.Ordering.TheVariants.Less, declared.cmp.Ordering.TheVariants.Equal, declared.cmp.Ordering.TheVariants.Greater, Cmp.Lexicographic.slice_cmp, Cmp.Lexicographic.slice_partial_cmp, Cmp.Lexicographic.lists_agrees}

-- a field whose values are all equal doesn't affect the order
then_equal : (o : Ordering) → partial_ordering_then (Some o) (Some Equal) ≡ Some o
then_equal Less = refl
then_equal Equal = refl
then_equal Greater = refl

-- the partial order is the order
pub byte_order : (xs ys : List ℕ) → partial_ordering_then (slice_partial_cmp (λ x y. Some (nat_cmp x y)) xs ys) (Some Equal) ≡ Some (slice_cmp nat_cmp xs ys)
byte_order xs ys = ap (λ o. partial_ordering_then o (Some Equal)) (lists_agrees (λ x y. refl) xs ys) ∙ then_equal (slice_cmp nat_cmp xs ys)
