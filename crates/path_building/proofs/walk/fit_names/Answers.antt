use Rattle.std.proofs.Common.{◌++◌, ◌+◌, ◌≤◌, length, map, reverse, subst, arith}
use Rattle.path_rules.specs.Component.{components_in}
use Rattle.path_rules.specs.Heads.{start_items}
use Rattle.path_rules.specs.Views.{item_of}
use Rattle.path_building.specs.Walked.{IsWalkedTo, Takes}
use Rattle.path_building.proofs.lemmas.Walks.{walked_on, index_fits}
use Rattle.path_building.proofs.walk.fit_names.Goals as goal

pub overflow_add-at : goal.overflow_add-at
overflow_add-at g c =
    let items = start_items c.args.start ++ components_in c.args.rules c.args.body.now in
    let here = subst (λ z. IsWalkedTo c.args.style items (map item_of c.loop-item.names.items) z c.loop-item.at) c.in-Some.ensures.items c.loop-item.invariant in
    let few : c.loop-item.at + 1 ≤ 1 + length c.args.body.now = index_fits c.args.style c.args.start c.args.rules c.args.body.now _ _ _ _ here in
    omega arith

pub loop-item-preserved : goal.loop-item-preserved
loop-item-preserved g c =
    let items = start_items c.args.start ++ components_in c.args.rules c.args.body.now in
    let here = subst (λ z. IsWalkedTo c.args.style items (map item_of c.loop-item.names.items) z c.loop-item.at) c.in-Some.ensures.items c.loop-item.invariant in
    let takes = subst (λ t. Takes t (reverse (map item_of c.loop-item.names.items)) (item_of c.in-Some.item) (reverse (map item_of c.take_in.new.names.items))) c.if-not-branch.false c.in_ok-take_in.ensures in
    walked_on c.args.style items _ _ _ _ _ here (c.has_no_stream.ensures.0 c.if-not-has_no_stream.false) (c.is_free.ensures.0 c.if-not-is_free.false) takes
