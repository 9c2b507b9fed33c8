use Rattle.std.proofs.Common.{refl, ◌≡◌, ◌++◌, map, reverse, sym, ap, ◌∙◌, subst}
use Rattle.path_building.specs.Written.{IsPathOf}
use Rattle.path_rules.specs.Component.{components_in}
use Rattle.path_rules.specs.Heads.{prefix_items, start_items, items_of}
use Rattle.path_rules.specs.Views.{item_of}
use Rattle.path_building.specs.Spelled.{AreSpelled}
use Rattle.path_building.specs.Relative.{IsWhole}
use Rattle.path_building.proofs.lemmas.Forms.{if_ok, nothing_after, cleaned_names_spelled, cleaned_none}
use Rattle.path_building.proofs.lemmas.Places.{whole_verbatim, whole_other}
use Rattle.path_building.proofs.relative.whole.Goals as goal

pub written_as-requires-clause-spelled : goal.written_as-requires-clause-spelled
written_as-requires-clause-spelled g c =
    let head = c.head_of-head.result in
    subst (AreSpelled head.rules) (sym (ap (map item_of) c.deref.ensures.value)) (cleaned_names_spelled c.args.style c.args.path.now head c.head_of-head.ensures.items c.head_of-head.ensures.parts c.is_root.result c.is_root.ensures.0 c.is_root.ensures.1 (map item_of c.in_ok-names.names.items) c.in_ok-names.ensures)

pub written_as-requires-clause-none : goal.written_as-requires-clause-none
written_as-requires-clause-none g c = λ v n.
    let head = c.head_of-head.result in
    let none = nothing_after c.args.style c.args.path.now head c.head_of-head.ensures.parts v n in
    ap (map item_of) c.deref.ensures.value ∙ cleaned_none c.args.style c.args.path.now head c.head_of-head.ensures.items c.head_of-head.ensures.parts c.is_root.result c.is_root.ensures.0 c.is_root.ensures.1 (map item_of c.in_ok-names.names.items) c.in_ok-names.ensures none

pub returns-then-is_verbatim : goal.returns-then-is_verbatim
returns-then-is_verbatim g c =
    let w = c.args.style in
    let path = c.args.path.now in
    let head = c.head_of-head.result in
    let names = map item_of c.deref.result.now in
    let same : reverse names ≡ reverse (map item_of c.in_ok-names.names.items) = ap (λ z. reverse (map item_of z)) c.deref.ensures.value in
    if_ok (λ z. IsPathOf w (prefix_items head.prefix.now ++ (start_items head.start ++ names)) z.items) (λ z. IsWhole w path z.items) c.written_as.result
    (λ z a. whole_verbatim w path head c.head_of-head.ensures.items c.head_of-head.ensures.parts c.is_root.result c.is_root.ensures.0 c.is_root.ensures.1 names (same ∙ c.in_ok-names.ensures) z.items (sym c.is_verbatim.ensures ∙ c.if-is_verbatim.true) a) c.written_as.ensures

pub returns : goal.returns
returns g c =
    let w = c.args.style in
    let path = c.args.path.now in
    let head = c.head_of-head.result in
    if_ok (λ z. IsPathOf w (items_of head) z.items) (λ z. IsWhole w path z.items) c.rewritten.result
    (λ z a. whole_other w path head c.head_of-head.ensures.items c.head_of-head.ensures.parts (components_in head.rules head.body.now) z.items (sym c.is_verbatim.ensures ∙ c.if-is_verbatim.false) refl a) c.rewritten.ensures
