use Rattle.std.proofs.Common.{length, ◌∙◌, ap, length-append, arith, subst, sym}
use Rattle.os_command_line.specs.WindowsViews.{argument_units}
use Rattle.platform_str.proofs.lemmas.Pushing.{nothing_pushed, one_pushed, all_pushed, push_both, PushesRest}
use Rattle.osbytes_c.proofs.lines.windows_arguments.push_argument.Goals as goal

pub loop-unit-init : goal.loop-unit-init
loop-unit-init c = subst (λ z. PushesRest c.args.out.now c.args.count c.args.out.now c.args.count z (argument_units c.args.argument)) (sym (c.into_iter-unit-iterator.ensures.into_iter_gives ∙ c.units-unit-items.ensures)) (nothing_pushed c.args.out.now c.args.count (argument_units c.args.argument))

pub push_unit-len-requires : goal.push_unit-len-requires
push_unit-len-requires c =
    let so_far = c.loop-unit.invariant in
    omega (arith, so_far.1.1, ap length so_far.2, length-append so_far.0 c.loop-unit.unit-iterator, ap length c.in-Some.ensures.steps, c.requires)

pub loop-unit-preserved : goal.loop-unit-preserved
loop-unit-preserved c = one_pushed c.loop-unit.invariant c.push_unit-len.ensures c.in-Some.ensures.steps

pub push_unit-requires : goal.push_unit-requires
push_unit-requires c =
    let so_far = c.loop-unit.invariant in
    omega (arith, so_far.1.1, ap length so_far.2, length-append so_far.0 c.loop-unit.unit-iterator, c.requires)

pub returns : goal.returns
returns c = push_both (all_pushed c.loop-unit.invariant c.in-None.ensures.steps.0) c.push_unit.ensures
