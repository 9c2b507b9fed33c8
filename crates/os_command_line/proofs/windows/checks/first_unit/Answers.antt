use Rattle.std.proofs.Common.{arith, length, ap, ◌∙◌}
use Rattle.wtf8_core.specs.UnitsOf.{units_of}
use Rattle.platform_str.specs.Strings.{bytes}
use Rattle.os_command_line.proofs.lemmas.WindowsStrings.{units_fit}
use Rattle.os_command_line.proofs.lemmas.WindowsWriting.{none_passed, one_passed, passed_here, all_passed, passed_within}
use Rattle.os_command_line.proofs.windows.checks.first_unit.Goals as goal

pub loop-unit-init : goal.loop-unit-init
loop-unit-init c = none_passed c.args.wanted (units_of (bytes c.args.string)) _ (c.into_iter-unit-iterator.ensures.into_iter_gives ∙ c.encode_wide-unit-items.ensures.units)

pub overflow_add-index : goal.overflow_add-index
overflow_add-index c = omega (arith, passed_within _ _ _ _ c.loop-unit.invariant, ap length c.in-Some.ensures.steps, units_fit (bytes c.args.string) c.args.string.ok, c.len.ensures)

pub loop-unit-preserved : goal.loop-unit-preserved
loop-unit-preserved c = one_passed c.args.wanted (units_of (bytes c.args.string)) c.loop-unit.unit-iterator c.loop-unit.index c.in-Some.unit c.next.new.self c.loop-unit.invariant c.in-Some.ensures.steps c.if-unit-wanted.false

pub returns-then-unit-wanted : goal.returns-then-unit-wanted
returns-then-unit-wanted c = passed_here c.args.wanted (units_of (bytes c.args.string)) c.loop-unit.unit-iterator c.loop-unit.index c.in-Some.unit c.next.new.self c.loop-unit.invariant c.in-Some.ensures.steps c.if-unit-wanted.true

pub returns : goal.returns
returns c = all_passed c.args.wanted (units_of (bytes c.args.string)) c.loop-unit.unit-iterator c.loop-unit.index c.loop-unit.invariant c.in-None.ensures.steps.0
