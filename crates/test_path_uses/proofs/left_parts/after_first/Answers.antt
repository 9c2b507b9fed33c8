use Rattle.std.proofs.Common.{◌≡◌, ◌∷◌, ap, sym, ◌∙◌, subst}
use Rattle.path_rules.specs.declared.rules.Style.TheVariants.{Unix}
use Rattle.path_rules.specs.Left.{IsLeft, one_more}
use Rattle.platform_str.specs.Strings.{path_bytes}
use Rattle.os_path.specs.Views.{os_item_of}
use Rattle.test_path_uses.proofs.LeftParts.{first_taken, one_taken, ends_last}
use Rattle.test_path_uses.proofs.left_parts.after_first.Goals as goal

pub returns-clause-part : goal.returns-clause-part
returns-clause-part c =
    let left = c.as_path.ensures in
    (left.before, (left.after, sym (c.next.ensures.steps.1.path ∙ c.components-left.ensures.path) ∙ left.joined))

pub returns-clause-others : goal.returns-clause-others
returns-clause-others c = λ first others are.
    let left = c.next.new.self in
    let part = path_bytes c.as_path.result in
    let rest = first_taken os_item_of c.next.result c.components-left.result.items left.items first others c.next.ensures.steps.0
    (c.one_list.ensures.items Unix (path_bytes c.args.path) c.components-left.result.items (first ∷ others) c.components-left.ensures.items are) in
    c.left_on_unix.ensures left.path left.taken others part
    (subst (λ x. IsLeft Unix left.path left.taken x part) rest (subst (λ w. IsLeft w left.path left.taken left.items part) (c.next.ensures.steps.1.style ∙ c.components-left.ensures.style) c.as_path.ensures))

pub returns-clause-last : goal.returns-clause-last
returns-clause-last c = λ first second others are.
    let left = c.next.new.self in
    let path = path_bytes c.args.path in
    let part = path_bytes c.as_path.result in
    let one = c.one_list.ensures.items Unix path in
    let all = one c.components-left.result.items (first ∷ second ∷ others) c.components-left.ensures.items are in
    let rest = first_taken os_item_of c.next.result c.components-left.result.items left.items first (second ∷ others) c.next.ensures.steps.0 all in
    let count : left.taken ≡ 1 =
    c.next.ensures.steps.1.taken ∙ ap (one_more c.next.result) c.components-left.ensures.taken ∙ one_taken os_item_of c.next.result c.components-left.result.items left.items first (second ∷ others) c.next.ensures.steps.0 all in
    ends_last path part first second others are one
    (subst (λ p. IsLeft Unix p 1 (second ∷ others) part) (c.next.ensures.steps.1.path ∙ c.components-left.ensures.path)
    (subst (λ n. IsLeft Unix left.path n (second ∷ others) part) count
    (subst (λ x. IsLeft Unix left.path left.taken x part) rest (subst (λ w. IsLeft w left.path left.taken left.items part) (c.next.ensures.steps.1.style ∙ c.components-left.ensures.style) c.as_path.ensures))))
