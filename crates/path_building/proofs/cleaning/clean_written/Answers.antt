use Rattle.std.proofs.Common.{refl, ◌≡◌, ◌++◌, map, reverse, sym, ap, ◌∙◌, subst}
use Rattle.path_rules.specs.Views.{item_of}
use Rattle.path_rules.specs.Component.{components_in}
use Rattle.path_rules.specs.Heads.{prefix_items, start_items, items_of}
use Rattle.path_building.specs.Written.{IsPathOf}
use Rattle.path_building.specs.Spelled.{AreSpelled}
use Rattle.path_building.specs.Cleaned.{spelled, IsCleanWritten}
use Rattle.path_building.proofs.lemmas.Beginnings.{may_start_shielded}
use Rattle.path_building.proofs.lemmas.Forms.{if_ok, nothing_after, kept_clean, no_dot_after, cleaned_clean, cleaned_names_spelled, cleaned_none}
use Rattle.path_building.proofs.cleaning.clean_written.Goals as goal

pub returns-then-is_verbatim : goal.returns-then-is_verbatim
returns-then-is_verbatim g c =
    let head = c.head-head.result in
    if_ok (λ z. IsPathOf c.args.path.now.style (items_of head) z.items) (λ z. IsCleanWritten c.args.path.now.style c.args.path.now.whole.now z.items) c.rewritten.result
    (λ z a. kept_clean c.args.path.now.style c.args.path.now.whole.now head c.head-head.ensures.items c.head-head.ensures.parts (components_in head.rules head.body.now) z.items (sym c.is_verbatim.ensures ∙ c.if-is_verbatim.true) refl a c.requires) c.rewritten.ensures

pub clean_start-start-requires : goal.clean_start-start-requires
clean_start-start-requires g c = no_dot_after c.args.path.now.style c.args.path.now.whole.now c.head-head.result c.head-head.ensures.parts

pub spelled_as-requires-clause-spelled : goal.spelled_as-requires-clause-spelled
spelled_as-requires-clause-spelled g c =
    let head = c.head-head.result in
    subst (AreSpelled head.rules) (sym (ap (map item_of) c.as_slice-kept.ensures.value)) (cleaned_names_spelled c.args.path.now.style c.args.path.now.whole.now head c.head-head.ensures.items c.head-head.ensures.parts c.is_root.result c.is_root.ensures.0 c.is_root.ensures.1 (map item_of c.in_ok-names.names.items) c.in_ok-names.ensures)

pub spelled_as-requires-clause-none : goal.spelled_as-requires-clause-none
spelled_as-requires-clause-none g c = λ v n.
    let head = c.head-head.result in
    let none = nothing_after c.args.path.now.style c.args.path.now.whole.now head c.head-head.ensures.parts v n in
    ap (map item_of) c.as_slice-kept.ensures.value ∙ cleaned_none c.args.path.now.style c.args.path.now.whole.now head c.head-head.ensures.items c.head-head.ensures.parts c.is_root.result c.is_root.ensures.0 c.is_root.ensures.1 (map item_of c.in_ok-names.names.items) c.in_ok-names.ensures none

pub returns : goal.returns
returns g c =
    let head = c.head-head.result in
    let names = map item_of c.as_slice-kept.result.now in
    let start = c.clean_start-start.result in
    let same : names ≡ map item_of c.in_ok-names.names.items = ap (map item_of) c.as_slice-kept.ensures.value in
    if_ok (λ z. IsPathOf c.args.path.now.style (map spelled (prefix_items head.prefix.now) ++ (start_items start ++ names)) z.items) (λ z. IsCleanWritten c.args.path.now.style c.args.path.now.whole.now z.items) c.spelled_as.result
    (λ z a. cleaned_clean c.args.path.now.style c.args.path.now.whole.now head c.head-head.ensures.items c.head-head.ensures.parts c.is_root.result c.is_root.ensures.0 c.is_root.ensures.1 names (ap reverse same ∙ c.in_ok-names.ensures) start z.items (sym c.is_verbatim.ensures ∙ c.if-is_verbatim.false) c.clean_start-start.ensures.shield a c.requires) c.spelled_as.ensures

pub spelled_as-requires-clause-may_start : goal.spelled_as-requires-clause-may_start
spelled_as-requires-clause-may_start g c =
    may_start_shielded c.args.path.now.style c.args.path.now.whole.now c.head-head.result c.clean_start-start.result (map item_of c.as_slice-kept.result.now) c.head-head.ensures.parts (spelled_as-requires-clause-spelled g c) c.clean_start-start.ensures.may
