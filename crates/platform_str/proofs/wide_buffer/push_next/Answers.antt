use Rattle.platform_str.proofs.Common.{nat_tests, common_steps, arith}
use Rattle.platform_str.proofs.wide_buffer.push_next.Goals as goal

pub returns-clause-written : goal.returns-clause-written
returns-clause-written c = grind (arith, nat_tests, common_steps, c.put_chosen-len.ensures.written, c.push_truncated.ensures.written, c.next_block-mask.ensures.added)
