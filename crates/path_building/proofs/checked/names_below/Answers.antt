use Rattle.std.proofs.Common.{◌≡◌, ◌++◌, map, sym, ap, ◌∙◌, subst}
use Rattle.path_rules.specs.Component.{components_in}
use Rattle.path_rules.specs.Views.{item_of}
use Rattle.path_rules.specs.Heads.{prefix_items, start_items}
use Rattle.path_building.specs.Written.{IsPathOf}
use Rattle.path_building.specs.Spelled.{AreSpelled, MayStart, IsNamesAfter}
use Rattle.path_building.proofs.lemmas.Forms.{if_ok}
use Rattle.path_building.proofs.lemmas.Spelling.{body_spelled}
use Rattle.path_building.proofs.lemmas.Checks.{alone_from, both_spelled, spelled_after, may_start, names_joined}
use Rattle.path_building.proofs.checked.names_below.Goals as goal

pub written_as-requires-clause-spelled : goal.written_as-requires-clause-spelled
written_as-requires-clause-spelled g c =
    let head = c.head-head.result in
    let names = map item_of c.args.names.now in
    let items = components_in head.rules head.body.now in
    let all : map item_of c.deref.result.now ≡ items ++ names = ap (map item_of) c.deref.ensures.value ∙ c.in_ok-add_names.ensures ∙ ap (λ z. z ++ names) c.in_ok-all.ensures in
    subst (AreSpelled head.rules) (sym all) (both_spelled head.rules items names (body_spelled head.rules head.body.now) (spelled_after c.args.path.now.style c.args.path.now.whole.now head c.head-head.ensures.parts names c.requires.spelled))

pub written_as-requires-clause-none : goal.written_as-requires-clause-none
written_as-requires-clause-none g c = λ v n. absurd (c.requires.no_alone (alone_from c.args.path.now.style c.args.path.now.whole.now c.head-head.result c.head-head.ensures.parts v n))

pub written_as-requires-clause-may_start : goal.written_as-requires-clause-may_start
written_as-requires-clause-may_start g c =
    let head = c.head-head.result in
    let names = map item_of c.args.names.now in
    let all : map item_of c.deref.result.now ≡ map item_of c.in_ok-all.all.items ++ names = ap (map item_of) c.deref.ensures.value ∙ c.in_ok-add_names.ensures in
    subst (MayStart c.args.path.now.style head head.start) (sym all) (may_start c.args.path.now.style c.args.path.now.whole.now head c.head-head.ensures.parts (map item_of c.in_ok-all.all.items) names c.in_ok-all.ensures c.requires.spelled c.requires.streams)

pub returns : goal.returns
returns g c =
    let w = c.args.path.now.style in
    let head = c.head-head.result in
    let names = map item_of c.args.names.now in
    let items = components_in head.rules head.body.now in
    let all : map item_of c.deref.result.now ≡ items ++ names = ap (map item_of) c.deref.ensures.value ∙ c.in_ok-add_names.ensures ∙ ap (λ z. z ++ names) c.in_ok-all.ensures in
    if_ok (λ z. IsPathOf w (prefix_items head.prefix.now ++ (start_items head.start ++ map item_of c.deref.result.now)) z.items) (λ z. IsNamesAfter w c.args.path.now.whole.now names z.items) c.written_as.result (λ z h. names_joined w c.args.path.now.whole.now z.items head c.head-head.ensures.items names (map item_of c.deref.result.now) all h) c.written_as.ensures
