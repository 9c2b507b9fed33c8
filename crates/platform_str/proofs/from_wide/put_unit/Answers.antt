use Rattle.platform_str.proofs.Common.{length-set, arith, nat_tests, common_steps}
use Rattle.wtf8_core.proofs.lemmas.forms.WrittenInPlace.{one_put, three_put}
use Rattle.platform_str.proofs.lemmas.FromWide.{last_gives, high_gives}
use Rattle.platform_str.proofs.from_wide.put_unit.Goals as goal

pub returns-then-is_pair-clause-written : goal.returns-then-is_pair-clause-written
returns-then-is_pair-clause-written c = grind (arith, nat_tests, common_steps, last_gives, one_put, c.is_pair.ensures, c.if-is_pair.true, c.requires)

pub bounds-bytes-at-then-is_pair-2-2 : goal.bounds-bytes-at-then-is_pair-2-2
bounds-bytes-at-then-is_pair-2-2 c = grind (arith, nat_tests, common_steps, high_gives, length-set, c.is_pair.ensures, c.if-is_pair.false, c.is_pair-2.ensures, c.if-is_pair-2.true, c.requires)

pub bounds-bytes-at-then-is_pair-2-3 : goal.bounds-bytes-at-then-is_pair-2-3
bounds-bytes-at-then-is_pair-2-3 c = grind (arith, nat_tests, common_steps, high_gives, length-set, c.is_pair.ensures, c.if-is_pair.false, c.is_pair-2.ensures, c.if-is_pair-2.true, c.requires)

pub returns-then-is_pair-2-clause-written : goal.returns-then-is_pair-2-clause-written
returns-then-is_pair-2-clause-written c = grind (arith, nat_tests, common_steps, high_gives, three_put, c.is_pair.ensures, c.if-is_pair.false, c.is_pair-2.ensures, c.if-is_pair-2.true, c.requires)
