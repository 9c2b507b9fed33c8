use Rattle.std.proofs.Common.{rules, ap, sym, subst, ◌∙◌}
use Rattle.std.proofs.lemmas.List.Sorted.{IsNonDecreasingBy-from_sort_by_key}
use Rattle.wildcards.specs.Ranges.{is_in, AreOrdered}
use Rattle.wildcards.proofs.lemmas.Orders.{moved, same_letters, ordered}
use Rattle.wildcards.proofs.range.in_order.Goals as goal

pub returns-clause-alike : goal.returns-clause-alike
returns-clause-alike g c letter =
    let up = IsNonDecreasingBy-from_sort_by_key (λ r. r.first) _ c.sort_unstable_by_key.ensures.sorted (λ a r q k. search rules) in
    ap (λ z. is_in z letter) c.reaches.ensures ∙ same_letters letter _ up ∙ moved letter _ _ c.sort_unstable_by_key.ensures.permutation

pub returns-clause-ordered : goal.returns-clause-ordered
returns-clause-ordered g c =
    let up = IsNonDecreasingBy-from_sort_by_key (λ r. r.first) _ c.sort_unstable_by_key.ensures.sorted (λ a r q k. search rules) in
    subst AreOrdered (sym c.reaches.ensures) (ordered _ up)
