use Rattle.std.proofs.Common.{[], sym, ◌∙◌, append-nil, subst}
use Rattle.path_rules.specs.Component.{components_in}
use Rattle.path_rules.specs.Body.{IsEndTrimmed}
use Rattle.path_rules.proofs.lemmas.Parents.{inside, body_inside}
use Rattle.path_rules.proofs.lemmas.ParentBodies.{is_end_trimmed}
use Rattle.path_rules.proofs.stripped.end_trimmed.Goals as goal

pub overflow_sub-path : goal.overflow_sub-path
overflow_sub-path c =
    let h = c.head_of-head.result in
    let rest = c.trimmed-body.result.now in
    body_inside c.args.path.now h rest [] c.trimmed-body.ensures.before (c.trimmed-body.ensures.items ∙ sym (append-nil (components_in h.rules rest))) c.args.style c.head_of-head.ensures.parts

pub split_at-requires : goal.split_at-requires
split_at-requires c =
    let h = c.head_of-head.result in
    let rest = c.trimmed-body.result.now in
    inside c.args.path.now h rest [] c.trimmed-body.ensures.before (c.trimmed-body.ensures.items ∙ sym (append-nil (components_in h.rules rest))) c.args.style c.head_of-head.ensures.parts

pub returns : goal.returns
returns c =
    let h = c.head_of-head.result in
    subst (IsEndTrimmed c.args.style c.args.path.now) (sym c.split_at.ensures.front)
    (is_end_trimmed c.args.path.now h c.trimmed-body.result.now c.trimmed-body.ensures.before c.trimmed-body.ensures.items c.args.style c.head_of-head.ensures.parts c.trimmed-body.ensures.named)
