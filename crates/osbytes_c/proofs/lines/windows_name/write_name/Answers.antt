use Rattle.std.proofs.Common.{[], ◌∷◌, length, ◌∙◌, ap, length-append, arith}
use Rattle.platform_str.specs.Strings.{bytes}
use Rattle.platform_str.proofs.lemmas.Pushing.{one_pushed, all_pushed, push_both, pushed_all}
use Rattle.os_command_line.proofs.lemmas.WindowsStrings.{units_fit}
use Rattle.osbytes_c.proofs.lines.windows_name.write_name.Goals as goal

pub loop-unit-init : goal.loop-unit-init
loop-unit-init c = (0x22 ∷ [], c.push_unit-count.ensures, ap (λ z. 0x22 ∷ z) (c.into_iter-unit-iterator.ensures.into_iter_gives ∙ c.encode_wide-unit-items.ensures.units))

pub push_unit-count-requires-in-loop-unit : goal.push_unit-count-requires-in-loop-unit
push_unit-count-requires-in-loop-unit c =
    let so_far = c.loop-unit.invariant in
    omega (arith, so_far.1.1, ap length so_far.2, length-append so_far.0 c.loop-unit.unit-iterator, ap length c.in-Some.ensures.steps, units_fit (bytes c.args.name) c.args.name.ok, c.requires)

pub loop-unit-preserved : goal.loop-unit-preserved
loop-unit-preserved c = one_pushed c.loop-unit.invariant c.push_unit-count-in-loop-unit.ensures c.in-Some.ensures.steps

pub push_unit-requires : goal.push_unit-requires
push_unit-requires c =
    let so_far = c.loop-unit.invariant in
    omega (arith, so_far.1.1, ap length so_far.2, length-append so_far.0 c.loop-unit.unit-iterator, units_fit (bytes c.args.name) c.args.name.ok, c.requires)

pub returns : goal.returns
returns c = pushed_all (push_both (all_pushed c.loop-unit.invariant c.in-None.ensures.steps.0) c.push_unit.ensures)
