use Rattle.std.proofs.Common.{refl, length, ◌-◌, subst}
use Rattle.std.proofs.lemmas.List.{nil_from_length}
use Rattle.wildcards.specs.Filters.{IsCovered}
use Rattle.wildcards.proofs.lemmas.Covers.{covers_none, covers_one, covers_each}
use Rattle.wildcards.proofs.pattern_set.add_choices.Goals as goal

pub loop-first-init : goal.loop-first-init
loop-first-init g c = covers_none c.args.options c.args.filter.now c.args.pattern c.args.choices.now _ refl

pub overflow_sub-choice : goal.overflow_sub-choice
overflow_sub-choice g c = c.loop-first.invariant.1.0

pub loop-first-preserved : goal.loop-first-preserved
loop-first-preserved g c =
    covers_one c.args.options c.args.filter.now c.args.pattern c.args.choices.now c.loop-first.filter _ c.loop-first.left.now c.in-Some.rest.now c.in-Some.first.now
    c.in-Some.ensures.cases.0 c.loop-first.invariant c.in_ok-add.ensures.grows
    (subst (IsCovered c.args.options _ (record { pattern = c.args.pattern; choice = length c.args.choices.now - length c.loop-first.left.now })) c.deref.ensures.value c.in_ok-add.ensures.covered)

pub returns-clause-covered : goal.returns-clause-covered
returns-clause-covered g c = covers_each c.args.options c.args.filter.now c.args.pattern c.args.choices.now c.loop-first.filter c.loop-first.left.now (nil_from_length _ c.in_default.ensures.cases) c.loop-first.invariant

pub returns-clause-grows : goal.returns-clause-grows
returns-clause-grows g c = c.loop-first.invariant.0
