-- Lists of numbers are ordered as equal exactly where they are equal.
use Rattle.std.proofs.Common.{◌≡◌, ◌↔◌, ◌∙◌, ℕ, Bool, List, IsTrue, ap, sym}
use Rattle.std.specs.Cmp.Lexicographic.{slice_cmp}
use Rattle.std.specs.Ordering.{nat_cmp}
use Rattle.std.specs.declared.cmp.Ordering.{Ordering}
use Rattle.std.specs.declared.cmp.Ordering.TheVariants.{Equal}
use Rattle.std.proofs.lemmas.Cmp.{nat_list_cmp_total, tied_itself}
use Rattle.std.proofs.lemmas.Map.Lookups.{exact_bytes}

pub equal_where_same : (xs ys : List ℕ) (same : Bool) (order : Ordering) → (IsTrue same ↔ (xs ≡ ys)) → order ≡ slice_cmp nat_cmp xs ys → IsTrue same ↔ (order ≡ Equal)
equal_where_same xs ys same order equal is = (
  λ t. is ∙ ap (slice_cmp nat_cmp xs) (sym (equal.0 t)) ∙ tied_itself nat_list_cmp_total xs,
  λ e. equal.1 (exact_bytes xs ys (sym is ∙ e)),
)
