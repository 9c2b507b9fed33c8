use Rattle.std.proofs.Common.{refl, map, reverse, Some, sym, ap, ◌∙◌, subst}
use Rattle.path_rules.specs.Views.{item_of}
use Rattle.std.specs.Option.{option_map}
use Rattle.path_rules.specs.Component.{components_in}
use Rattle.path_building.specs.Spelled.{AreSpelled}
use Rattle.path_building.proofs.lemmas.Beginnings.{may_start_shielded}
use Rattle.path_building.proofs.lemmas.Forms.{nothing_after, kept_normal, resolved_normal, resolved_none, names_spelled, names_none}
use Rattle.path_building.proofs.normal.normal_written.Goals as goal

pub returns-then-is_verbatim-clause-ok : goal.returns-then-is_verbatim-clause-ok
returns-then-is_verbatim-clause-ok g c =
    let head = c.head-head.result in
    kept_normal c.args.path.now.style c.args.path.now.whole.now head c.head-head.ensures.items c.head-head.ensures.parts (components_in head.rules head.body.now) c.in_ok-rewritten.field-0.items (sym c.is_verbatim.ensures ∙ c.if-is_verbatim.true) refl c.in_ok-rewritten.ensures c.requires

pub returns-in_default-clause-err : goal.returns-in_default-clause-err
returns-in_default-clause-err g c =
    let head = c.head-head.result in
    (c.requires, resolved_none c.args.path.now.style c.args.path.now.whole.now head c.head-head.ensures.items c.head-head.ensures.parts (sym c.is_verbatim.ensures ∙ c.if-is_verbatim.false) (sym c.in_ok-names.ensures ∙ ap (option_map (λ v. reverse (map item_of v.items))) c.in_default.is))

pub written_as-requires-clause-spelled : goal.written_as-requires-clause-spelled
written_as-requires-clause-spelled g c =
    let head = c.head-head.result in
    subst (AreSpelled head.rules) (sym (ap (map item_of) c.as_slice-kept.ensures.value)) (names_spelled c.args.path.now.style c.args.path.now.whole.now head c.head-head.ensures.items c.head-head.ensures.parts (map item_of c.in-Some.names.items) (sym c.in_ok-names.ensures ∙ ap (option_map (λ v. reverse (map item_of v.items))) c.in-Some.is))

pub written_as-requires-clause-none : goal.written_as-requires-clause-none
written_as-requires-clause-none g c = λ v n.
    let head = c.head-head.result in
    let none = nothing_after c.args.path.now.style c.args.path.now.whole.now head c.head-head.ensures.parts v n in
    ap (map item_of) c.as_slice-kept.ensures.value ∙ names_none c.args.path.now.style c.args.path.now.whole.now head c.head-head.ensures.items c.head-head.ensures.parts (map item_of c.in-Some.names.items) (sym c.in_ok-names.ensures ∙ ap (option_map (λ v. reverse (map item_of v.items))) c.in-Some.is) none

pub returns-clause-ok : goal.returns-clause-ok
returns-clause-ok g c =
    let head = c.head-head.result in
    let names = map item_of c.as_slice-kept.result.now in
    resolved_normal c.args.path.now.style c.args.path.now.whole.now head c.head-head.ensures.items c.head-head.ensures.parts names c.shielded_start-start.result c.in_ok-written_as.field-0.items (sym c.is_verbatim.ensures ∙ c.if-is_verbatim.false)
    (sym c.in_ok-names.ensures ∙ ap (option_map (λ v. reverse (map item_of v.items))) c.in-Some.is ∙ ap (λ z. Some (reverse (map item_of z))) (sym c.as_slice-kept.ensures.value)) c.shielded_start-start.ensures.shield c.in_ok-written_as.ensures
    (subst (AreSpelled head.rules) (sym (ap (map item_of) c.as_slice-kept.ensures.value)) (names_spelled c.args.path.now.style c.args.path.now.whole.now head c.head-head.ensures.items c.head-head.ensures.parts (map item_of c.in-Some.names.items) (sym c.in_ok-names.ensures ∙ ap (option_map (λ v. reverse (map item_of v.items))) c.in-Some.is)))
    c.requires

pub written_as-requires-clause-may_start : goal.written_as-requires-clause-may_start
written_as-requires-clause-may_start g c =
    may_start_shielded c.args.path.now.style c.args.path.now.whole.now c.head-head.result c.shielded_start-start.result (map item_of c.as_slice-kept.result.now) c.head-head.ensures.parts (written_as-requires-clause-spelled g c) c.shielded_start-start.ensures.may
