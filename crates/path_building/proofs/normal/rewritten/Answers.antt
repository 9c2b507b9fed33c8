use Rattle.std.proofs.Common.{◌++◌, map, sym, ap, ◌∙◌, subst}
use Rattle.path_rules.specs.Heads.{prefix_items, start_items, items_of}
use Rattle.path_rules.specs.Views.{item_of}
use Rattle.path_building.specs.Written.{IsPathOf}
use Rattle.path_building.specs.Spelled.{AreSpelled}
use Rattle.path_building.proofs.lemmas.Checks.{whole_start}
use Rattle.path_building.proofs.lemmas.Forms.{if_ok, nothing_after}
use Rattle.path_building.proofs.lemmas.Spelling.{body_spelled}
use Rattle.path_building.proofs.normal.rewritten.Goals as goal

pub written_as-requires-clause-spelled : goal.written_as-requires-clause-spelled
written_as-requires-clause-spelled g c =
    let head = c.args.head in
    subst (AreSpelled head.rules) (sym (ap (map item_of) c.deref.ensures.value ∙ c.in_ok-names.ensures)) (body_spelled head.rules head.body.now)

pub written_as-requires-clause-none : goal.written_as-requires-clause-none
written_as-requires-clause-none g c = λ v n.
    ap (map item_of) c.deref.ensures.value ∙ c.in_ok-names.ensures ∙ nothing_after c.args.style c.args.path.now c.args.head c.requires v n

pub written_as-requires-clause-may_start : goal.written_as-requires-clause-may_start
written_as-requires-clause-may_start g c =
    whole_start c.args.style c.args.path.now c.args.head c.requires (map item_of c.deref.result.now) (ap (map item_of) c.deref.ensures.value ∙ c.in_ok-names.ensures)

pub returns : goal.returns
returns g c =
    let w = c.args.style in
    let head = c.args.head in
    let names = map item_of c.deref.result.now in
    if_ok (λ z. IsPathOf w (prefix_items head.prefix.now ++ (start_items head.start ++ names)) z.items) (λ z. IsPathOf w (items_of head) z.items) c.written_as.result
    (λ z h. subst (λ items. IsPathOf w (prefix_items head.prefix.now ++ (start_items head.start ++ items)) z.items) (ap (map item_of) c.deref.ensures.value ∙ c.in_ok-names.ensures) h) c.written_as.ensures
