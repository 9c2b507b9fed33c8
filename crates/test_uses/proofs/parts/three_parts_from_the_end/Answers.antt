use Rattle.std.proofs.Common.{sym, subst, rules}
use Rattle.wtf8_core.specs.Boundary.{IsBoundary}
use Rattle.test_uses.proofs.parts.three_parts_from_the_end.Goals as goal

pub split_at-requires-2 : goal.split_at-requires-2
split_at-requires-2 g c =
    subst (λ b. IsBoundary b c.args.start) (sym c.split_at.ensures.front)
    (c.boundaries.ensures.in_prefix _ c.args.start c.args.end (search rules) (search rules) (search rules))
