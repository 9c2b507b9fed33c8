use Rattle.os_str_ext.proofs.Common.{ap, ◌-◌, length, take, drop}
use Rattle.os_str_ext.proofs.lemmas.Comparing.{same_by_ends}
use Rattle.os_str_ext.proofs.compare.are_ends_same.Goals as goal

pub returns-then-has_same_prefix : goal.returns-then-has_same_prefix
returns-then-has_same_prefix g c =
    let r = c.requires in
    let prefix = c.are_same_at-has_same_prefix.ensures.0 c.if-has_same_prefix.true in (
      λ e. same_by_ends g.row.N _ _ r.lengths r.at_least r.at_most prefix (c.are_same_at-has_same_suffix.ensures.0 e),
      λ h. c.are_same_at-has_same_suffix.ensures.1 (ap (λ s. take g.row.N (drop (length c.args.a.now - g.row.N) s)) h),
    )
