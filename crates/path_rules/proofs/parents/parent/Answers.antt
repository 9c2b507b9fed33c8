use Rattle.std.proofs.Common.{◌∷◌, ◌++◌, [], sym, ap, ◌∙◌, subst}
use Rattle.path_rules.specs.Views.{item_of}
use Rattle.path_rules.specs.Parent.{IsParent}
use Rattle.path_rules.proofs.lemmas.UpTo.{up_to_again}
use Rattle.path_rules.proofs.lemmas.ParentBodies.{is_parent}
use Rattle.path_rules.proofs.lemmas.Parents.{inside, body_inside, parent_of_dot, no_parent}
use Rattle.path_rules.proofs.parents.parent.Goals as goal

pub split_at-requires : goal.split_at-requires
split_at-requires c =
    let h = c.head_of-head.result in
    let rest = c.trimmed-rest.result.now in
    let x = item_of c.in-Some.field-0-1 in
    inside c.args.path.now h rest (x ∷ []) (up_to_again h.rules h.body.now c.in-Some.before.now rest c.in-Some.ensures.before c.trimmed-rest.ensures.before) (c.in-Some.ensures.items ∙ ap (λ y. y ++ x ∷ []) c.trimmed-rest.ensures.items) c.args.style c.head_of-head.ensures.parts

pub overflow_sub-path : goal.overflow_sub-path
overflow_sub-path c =
    let h = c.head_of-head.result in
    let rest = c.trimmed-rest.result.now in
    let x = item_of c.in-Some.field-0-1 in
    body_inside c.args.path.now h rest (x ∷ []) (up_to_again h.rules h.body.now c.in-Some.before.now rest c.in-Some.ensures.before c.trimmed-rest.ensures.before) (c.in-Some.ensures.items ∙ ap (λ y. y ++ x ∷ []) c.trimmed-rest.ensures.items) c.args.style c.head_of-head.ensures.parts

pub returns-in-Some : goal.returns-in-Some
returns-in-Some c =
    let h = c.head_of-head.result in
    let rest = c.trimmed-rest.result.now in
    let x = item_of c.in-Some.field-0-1 in
    subst (IsParent c.args.style c.args.path.now) (sym c.split_at.ensures.front)
    (is_parent c.args.path.now h rest x (up_to_again h.rules h.body.now c.in-Some.before.now rest c.in-Some.ensures.before c.trimmed-rest.ensures.before) (c.in-Some.ensures.items ∙ ap (λ y. y ++ x ∷ []) c.trimmed-rest.ensures.items) c.args.style c.head_of-head.ensures.parts c.in-Some.ensures.below c.trimmed-rest.ensures.named)

pub returns-in-Dot : goal.returns-in-Dot
returns-in-Dot c = parent_of_dot c.args.style c.args.path.now c.as_slice.result.now c.head_of-head.result c.as_slice.ensures c.in-Dot.is c.in_default.ensures.items c.head_of-head.ensures.parts

pub returns-in_default-start : goal.returns-in_default-start
returns-in_default-start c = λ items last k. no_parent c.args.style c.args.path.now c.head_of-head.result c.head_of-head.ensures.items c.in_default.ensures.items c.in_default-start.not-Dot items last k
