use Rattle.platform_str.proofs.Common.{nat_tests, common_steps}
use Rattle.std.proofs.Common.{◌≡◌, Bool, true, false, cond, refl, arith}
use Rattle.std.specs.{Int.from_bool}
use Rattle.platform_str.proofs.lemmas.Displays.{count_none, count_more}
use Rattle.platform_str.proofs.writeable.ShortfallWrite.write_str.Goals as goal

one_if : (b : Bool) → from_bool b ≡ cond b 1 0
one_if true = refl
one_if false = refl

pub loop-first-preserved : goal.loop-first-preserved
loop-first-preserved c = grind (arith, nat_tests, common_steps, count_more, c.from.ensures, c.is_char_start.ensures, c.saturating_sub-self.ensures, c.loop-first.invariant)

pub returns : goal.returns
returns c = grind (arith, nat_tests, common_steps, count_none, c.in_default.ensures.cases, c.loop-first.invariant)
