use Rattle.std.proofs.Common.{◌≡◌, ◌∷◌, sym, ◌∙◌}
use Rattle.os_ignore.proofs.lemmas.Rests.{not_below, same_after, not_empty}
use Rattle.os_ignore.proofs.verdict.below.Goals as goal

pub returns-in_default : goal.returns-in_default
returns-in_default c =
    not_below c.args.directory.now c.args.path.now (not_empty c.args.directory.now (sym c.is_empty.ensures ∙ c.if-is_empty.false)) (λ rest e. c.in_default.ensures (0x2F ∷ rest) e)

pub returns-else-first-eq47 : goal.returns-else-first-eq47
returns-else-first-eq47 c =
    not_below c.args.directory.now c.args.path.now (not_empty c.args.directory.now (sym c.is_empty.ensures ∙ c.if-is_empty.false)) (λ rest e.
    let same : c.in-Some.after.now ≡ 0x2F ∷ rest = same_after c.args.directory.now c.in-Some.after.now (0x2F ∷ rest) (sym c.in-Some.ensures ∙ e) in
    let cut : c.in-Some.after.now ≡ c.in-Some-split_first.first.now ∷ c.in-Some-split_first.rest.now = c.in-Some-split_first.ensures.cases.0 in
    let first : c.in-Some-split_first.first.now ≡ 0x2F = cc in
    c.if-first-eq47.false first)
