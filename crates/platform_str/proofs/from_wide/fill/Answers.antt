use Rattle.platform_str.proofs.Common.{length-append, length-take-le, take_all, arith, nat_tests, common_steps}
use Rattle.std.proofs.lemmas.List.{take_at}
use Rattle.platform_str.proofs.from_wide.fill.Goals as goal

pub returns-in_default : goal.returns-in_default
returns-in_default c = grind (arith, nat_tests, common_steps, length-take-le, length-append, c.loop-end.invariant, c.requires, c.loop-end-test.true)

pub returns : goal.returns
returns c = grind (arith, nat_tests, common_steps, take_all, take_at, c.loop-end.invariant, c.loop-end-test.false)
