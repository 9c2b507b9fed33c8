use Rattle.std.proofs.Common.{ℕ, rules, ltb, false, true, ◌≡◌, subst, sym}
use Rattle.std.proofs.lemmas.List.Sorted.{IsPartitionPoint-from_clause, IsPartitionedBy-ltb}
use Rattle.std.specs.List.Sorted.{IsNonDecreasingBy, IsPartitionPoint}
use Rattle.glob_text.proofs.lemmas.Folding.{first_pair_from, pairs_rise}
use Rattle.glob_text.proofs.fold.first_pair.Goals as goal

pub returns : goal.returns
returns c =
    let letter = c.args.letter in
    let table = c.fold_pairs.ensures.table in
    let rises = subst (IsNonDecreasingBy (λ (p : ℕ × ℕ). p.0)) (sym table) pairs_rise in
    let point = IsPartitionPoint-from_clause (λ (p : ℕ × ℕ). ltb p.0 letter) _ _ c.partition_point.ensures.partitioned (IsPartitionedBy-ltb (λ (p : ℕ × ℕ). p.0) _ letter rises) (λ a r q k. search rules) in
    first_pair_from letter c.partition_point.result (subst (λ z. IsPartitionPoint (λ (p : ℕ × ℕ). ltb p.0 letter ≡ true) (λ p. ltb p.0 letter ≡ false) z c.partition_point.result) table point)
