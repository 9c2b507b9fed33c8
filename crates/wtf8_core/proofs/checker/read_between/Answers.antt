use Rattle.wtf8_core.proofs.Common.{◌++◌, take, MatchResult, sym, ◌∙◌, subst, Gives, IsInState, IsFaulty, items_after}
use Rattle.wtf8_core.proofs.lemmas.table.Pieces.{with_prefix, prefix_read}
use Rattle.wtf8_core.proofs.checker.read_between.Goals as goal

pub returns-then-ends_with_high_surrogate : goal.returns-then-ends_with_high_surrogate
returns-then-ends_with_high_surrogate c fed m =
    let bytes = c.args.bytes.now in
    let at = c.prefix_of_piece-at.result in
    let f = c.prefix_of_piece-at.ensures.prefix in
    subst (λ x. MatchResult c.read_bytes.result (λ r. IsInState r.0 r.1 x) (λ fault. IsFaulty x fault)) (with_prefix fed bytes _ at c.split_at.ensures.back)
    (c.read_bytes.ensures (fed ++ take at bytes) (subst (λ h. Gives (fed ++ take at bytes) (items_after h)) (sym (c.ends_with_high_surrogate.ensures f) ∙ c.if-ends_with_high_surrogate.true) (prefix_read fed bytes at f m)))

pub returns-else-ends_with_high_surrogate : goal.returns-else-ends_with_high_surrogate
returns-else-ends_with_high_surrogate c fed m =
    let bytes = c.args.bytes.now in
    let at = c.prefix_of_piece-at.result in
    let f = c.prefix_of_piece-at.ensures.prefix in
    subst (λ x. MatchResult c.read_bytes-else-ends_with_high_surrogate.result (λ r. IsInState r.0 r.1 x) (λ fault. IsFaulty x fault)) (with_prefix fed bytes _ at c.split_at.ensures.back)
    (c.read_bytes-else-ends_with_high_surrogate.ensures (fed ++ take at bytes) (subst (λ h. Gives (fed ++ take at bytes) (items_after h)) (sym (c.ends_with_high_surrogate.ensures f) ∙ c.if-ends_with_high_surrogate.false) (prefix_read fed bytes at f m)))
