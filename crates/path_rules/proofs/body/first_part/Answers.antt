use Rattle.std.proofs.Common.{◌∙◌, refl}
use Rattle.path_rules.proofs.lemmas.Bodies.{only_first, first_item, no_first_item}
use Rattle.path_rules.proofs.lemmas.Tails.{whole_tail, cut_tail, tail_again, empty_tail, begins_alone, begins_cut}
use Rattle.path_rules.proofs.lemmas.FirstParts.{nothing_skipped, one_skipped, last_first, cut_first}
use Rattle.path_rules.specs.Views.{item_of}
use Rattle.path_rules.proofs.body.first_part.Goals as goal

pub loop-part-init : goal.loop-part-init
loop-part-init c = (refl, (whole_tail c.args.body.now, nothing_skipped c.args.rules c.args.body.now))

pub returns-in-Some-component_of-clause-items : goal.returns-in-Some-component_of-clause-items
returns-in-Some-component_of-clause-items c =
    c.loop-part.invariant.0
    ∙ only_first c.args.rules c.loop-part.left.now c.as_slice.result.now (item_of c.in-Some-component_of.item) c.as_slice.ensures c.in_default.ensures c.in-Some-component_of.ensures.names

pub returns-in-Some-component_of-clause-after : goal.returns-in-Some-component_of-clause-after
returns-in-Some-component_of-clause-after c = empty_tail c.args.body.now c.as_slice.result.now c.as_slice.ensures

pub returns-in-Some-component_of-2-clause-items : goal.returns-in-Some-component_of-2-clause-items
returns-in-Some-component_of-2-clause-items c =
    c.loop-part.invariant.0
    ∙ first_item c.args.rules c.loop-part.left.now c.in-Some.part.now c.in-Some.rest.now (item_of c.in-Some-component_of-2.item) c.in-Some.ensures c.in-Some-component_of-2.ensures.names

pub returns-in-Some-component_of-2-clause-after : goal.returns-in-Some-component_of-2-clause-after
returns-in-Some-component_of-2-clause-after c =
    tail_again c.args.body.now c.loop-part.left.now c.in-Some.rest.now c.loop-part.invariant.1.0 (cut_tail c.args.rules c.loop-part.left.now c.in-Some.part.now c.in-Some.rest.now c.in-Some.ensures.0)

pub returns-in-Some-component_of-clause-first : goal.returns-in-Some-component_of-clause-first
returns-in-Some-component_of-clause-first c =
    last_first c.args.rules c.args.body.now c.loop-part.left.now c.as_slice.result.now (item_of c.in-Some-component_of.item) c.loop-part.invariant.1.1 c.in_default.ensures c.in-Some-component_of.ensures.names c.as_slice.ensures

pub returns-in-Some-component_of-2-clause-first : goal.returns-in-Some-component_of-2-clause-first
returns-in-Some-component_of-2-clause-first c =
    cut_first c.args.rules c.args.body.now c.loop-part.left.now c.in-Some.part.now c.in-Some.rest.now (item_of c.in-Some-component_of-2.item) c.loop-part.invariant.1.1 c.in-Some.ensures c.in-Some-component_of-2.ensures.names

pub returns-in-Some-component_of-clause-named : goal.returns-in-Some-component_of-clause-named
returns-in-Some-component_of-clause-named c =
    begins_alone c.args.rules c.loop-part.left.now (item_of c.in-Some-component_of.item) c.in_default.ensures c.in-Some-component_of.ensures.names

pub returns-in-Some-component_of-2-clause-named : goal.returns-in-Some-component_of-2-clause-named
returns-in-Some-component_of-2-clause-named c =
    begins_cut c.args.rules c.loop-part.left.now c.in-Some.part.now c.in-Some.rest.now (item_of c.in-Some-component_of-2.item) c.in-Some.ensures c.in-Some-component_of-2.ensures.names

pub loop-part-preserved : goal.loop-part-preserved
loop-part-preserved c = (
  c.loop-part.invariant.0 ∙ no_first_item c.args.rules c.loop-part.left.now c.in-Some.part.now c.in-Some.rest.now c.in-Some.ensures c.in_default-component_of.ensures.names,
  (
    tail_again c.args.body.now c.loop-part.left.now c.in-Some.rest.now c.loop-part.invariant.1.0 (cut_tail c.args.rules c.loop-part.left.now c.in-Some.part.now c.in-Some.rest.now c.in-Some.ensures.0),
    one_skipped c.args.rules c.args.body.now c.loop-part.left.now c.in-Some.part.now c.in-Some.rest.now c.loop-part.invariant.1.1 c.in-Some.ensures c.in_default-component_of.ensures.names,
  ),
)
