use Rattle.std.proofs.Common.{inl, inr, [], length, take, ap, sym, ◌∙◌, subst, arith, append-nil, refl}
use Rattle.std.proofs.lemmas.List.{take_at}
use Rattle.path_rules.specs.Root.{BeginsWithSeparator}
use Rattle.path_building.proofs.lemmas.Joins.{join_root, join_kept, refuted}
use Rattle.path_building.proofs.joining.kept_part.Goals as goal

pub returns-then-begins_with_separator : goal.returns-then-begins_with_separator
returns-then-begins_with_separator c =
    let base = c.args.base.now in
    let path = c.args.path.now in
    let sep = c.as_slice-then-begins_with_separator in (
      c.prefix_len.ensures.inside,
      (omega (arith, ap length sep.ensures)),
      join_root c.args.style base path (take c.prefix_len.result base) sep.result.now sep.ensures (refuted _ c.is_prefixed.result c.is_prefixed.ensures c.if-is_prefixed.false) (refuted _ c.is_resolved.result c.is_resolved.ensures c.if-is_resolved.false)
          (subst (λ r. BeginsWithSeparator r path) c.rules.ensures (c.begins_with_separator.ensures.0 c.if-begins_with_separator.true)) c.prefix_len.ensures.raw,
    )

pub returns-then-needs_no_separator : goal.returns-then-needs_no_separator
returns-then-needs_no_separator c =
    let base = c.args.base.now in
    let path = c.args.path.now in
    let sep = c.as_slice-then-needs_no_separator in (
      omega arith,
      (omega (arith, ap length sep.ensures)),
      join_kept c.args.style base path (take (length base) base) sep.result.now (ap (take (length base)) (sym (append-nil base)) ∙ take_at base [] (length base) refl) (refuted _ c.is_prefixed.result c.is_prefixed.ensures c.if-is_prefixed.false)
          (refuted _ c.is_resolved.result c.is_resolved.ensures c.if-is_resolved.false)
          (subst (λ r. ¬ (BeginsWithSeparator r path)) c.rules.ensures (refuted _ c.begins_with_separator.result c.begins_with_separator.ensures c.if-begins_with_separator.false))
          (inl (c.needs_no_separator.ensures.0 c.if-needs_no_separator.true, sep.ensures)),
    )

pub returns : goal.returns
returns c =
    let base = c.args.base.now in
    let path = c.args.path.now in (
      omega arith,
      (omega (arith, ap length c.separator.ensures)),
      join_kept c.args.style base path (take (length base) base) c.separator.result.now (ap (take (length base)) (sym (append-nil base)) ∙ take_at base [] (length base) refl) (refuted _ c.is_prefixed.result c.is_prefixed.ensures c.if-is_prefixed.false)
          (refuted _ c.is_resolved.result c.is_resolved.ensures c.if-is_resolved.false)
          (subst (λ r. ¬ (BeginsWithSeparator r path)) c.rules.ensures (refuted _ c.begins_with_separator.result c.begins_with_separator.ensures c.if-begins_with_separator.false))
          (inr (refuted _ c.needs_no_separator.result c.needs_no_separator.ensures c.if-needs_no_separator.false, c.separator.ensures)),
    )
