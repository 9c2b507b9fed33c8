use Rattle.std.proofs.Common.{◌∷◌, ◌++◌, ◌∙◌, [], ap, sym}
use Rattle.os_command_line.proofs.lemmas.WindowsUnits.{never_equal, not_nil, not_first, both_more}
use Rattle.os_command_line.proofs.windows.argument.Argument.equals.Goals as goal

pub loop-wanted-init : goal.loop-wanted-init
loop-wanted-init c = ([], sym c.units-units.ensures, sym (c.into_iter-wanted-iterator.ensures.into_iter_gives ∙ c.encode_wide-wanted-items.ensures.units))

pub returns-in_default : goal.returns-in_default
returns-in_default c =
    let so_far = c.loop-wanted.invariant in
    never_equal _ _ so_far.0 _ _ so_far.1 so_far.2 (not_nil _ _ c.in-Some.wanted _ c.in_default.ensures.steps.0 c.in-Some.ensures.steps)

pub returns-then-unit-wanted : goal.returns-then-unit-wanted
returns-then-unit-wanted c =
    let so_far = c.loop-wanted.invariant in
    never_equal _ _ so_far.0 _ _ so_far.1 so_far.2 (not_first _ _ c.in-Some-next.unit c.in-Some.wanted _ _ c.in-Some-next.ensures.steps c.in-Some.ensures.steps c.if-unit-wanted.true)

pub loop-wanted-preserved : goal.loop-wanted-preserved
loop-wanted-preserved c =
    let so_far = c.loop-wanted.invariant in
    let w = c.in-Some.wanted in (
      so_far.0 ++ w ∷ [],
      both_more _ so_far.0 _ w _ so_far.1 (c.in-Some-next.ensures.steps ∙ ap (λ u. u ∷ c.next-in-loop-wanted.new.self) c.if-unit-wanted.false),
      both_more _ so_far.0 _ w _ so_far.2 c.in-Some.ensures.steps,
    )
