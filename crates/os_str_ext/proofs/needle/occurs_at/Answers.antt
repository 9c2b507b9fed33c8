use Rattle.std.proofs.Common.{length, take, sym, ap, ◌∙◌, arith}
use Rattle.memchr.proofs.lemmas.MatchLemmas.{OccursAt-part, OccursAt-from_part}
use Rattle.os_str_ext.proofs.needle.occurs_at.Goals as goal

pub returns-then-needle-rest : goal.returns-then-needle-rest
returns-then-needle-rest c =
    let size = c.split_at.ensures.back_len in
    let low = c.if-needle-rest.true in
    let part = c.split_at-then-needle-rest.ensures.front ∙ ap (take (length c.args.needle.now)) c.split_at.ensures.back in (
      λ e. OccursAt-from_part c.args.bytes.now c.args.needle.now c.args.at (omega arith) (sym part ∙ c.are_same.ensures.0 e),
      λ o. c.are_same.ensures.1 (part ∙ OccursAt-part c.args.bytes.now c.args.needle.now c.args.at o),
    )
