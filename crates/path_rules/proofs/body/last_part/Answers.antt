use Rattle.std.proofs.Common.{◌∙◌, refl, inl, inr}
use Rattle.path_rules.proofs.lemmas.Bodies.{only_last, last_item, no_last_item, last_of_one, last_of_more, alone_named, last_named}
use Rattle.path_rules.proofs.lemmas.UpTo.{whole, shorter_up_to}
use Rattle.path_rules.specs.Views.{item_of}
use Rattle.path_rules.proofs.body.last_part.Goals as goal

pub loop-rest-init : goal.loop-rest-init
loop-rest-init c = (refl, whole c.args.rules c.args.body.now)

pub returns-in-Some-component_of-clause-items : goal.returns-in-Some-component_of-clause-items
returns-in-Some-component_of-clause-items c =
    c.loop-rest.invariant.0
    ∙ only_last c.args.rules c.loop-rest.left.now c.as_slice.result.now (item_of c.in-Some-component_of.item) c.as_slice.ensures c.in_default.ensures c.in-Some-component_of.ensures.names

pub returns-in-Some-component_of-clause-before : goal.returns-in-Some-component_of-clause-before
returns-in-Some-component_of-clause-before c = inl c.as_slice.ensures

pub returns-in-Some-component_of-2-clause-items : goal.returns-in-Some-component_of-2-clause-items
returns-in-Some-component_of-2-clause-items c =
    c.loop-rest.invariant.0
    ∙ last_item c.args.rules c.loop-rest.left.now c.in-Some.rest.now c.in-Some.part.now (item_of c.in-Some-component_of-2.item) c.in-Some.ensures c.in-Some-component_of-2.ensures.names

pub returns-in-Some-component_of-2-clause-before : goal.returns-in-Some-component_of-2-clause-before
returns-in-Some-component_of-2-clause-before c =
    inr (shorter_up_to c.args.rules c.args.body.now c.loop-rest.left.now c.in-Some.rest.now c.in-Some.part.now c.loop-rest.invariant.1 c.in-Some.ensures.0)

pub returns-in-Some-component_of-clause-part : goal.returns-in-Some-component_of-clause-part
returns-in-Some-component_of-clause-part c =
    last_of_one c.args.rules c.args.body.now c.loop-rest.left.now (item_of c.in-Some-component_of.item) c.loop-rest.invariant.1 c.loop-rest.invariant.0 c.in_default.ensures c.in-Some-component_of.ensures.names

pub returns-in-Some-component_of-2-clause-part : goal.returns-in-Some-component_of-2-clause-part
returns-in-Some-component_of-2-clause-part c =
    last_of_more c.args.rules c.args.body.now c.loop-rest.left.now c.in-Some.rest.now c.in-Some.part.now (item_of c.in-Some-component_of-2.item) c.loop-rest.invariant.1 c.loop-rest.invariant.0 c.in-Some.ensures c.in-Some-component_of-2.ensures.names

pub returns-in-Some-component_of-clause-named : goal.returns-in-Some-component_of-clause-named
returns-in-Some-component_of-clause-named c =
    alone_named c.args.rules c.loop-rest.left.now (item_of c.in-Some-component_of.item) c.in_default.ensures c.in-Some-component_of.ensures.names

pub returns-in-Some-component_of-2-clause-named : goal.returns-in-Some-component_of-2-clause-named
returns-in-Some-component_of-2-clause-named c =
    last_named c.args.rules c.loop-rest.left.now c.in-Some.rest.now c.in-Some.part.now (item_of c.in-Some-component_of-2.item) c.in-Some.ensures c.in-Some-component_of-2.ensures.names

pub loop-rest-preserved : goal.loop-rest-preserved
loop-rest-preserved c = (
  c.loop-rest.invariant.0 ∙ no_last_item c.args.rules c.loop-rest.left.now c.in-Some.rest.now c.in-Some.part.now c.in-Some.ensures c.in_default-component_of.ensures.names,
  shorter_up_to c.args.rules c.args.body.now c.loop-rest.left.now c.in-Some.rest.now c.in-Some.part.now c.loop-rest.invariant.1 c.in-Some.ensures.0,
)
