use Rattle.os_quote.proofs.Common.{common_steps, nat_tests, arith}
use Rattle.os_quote.proofs.find_hidden.first_suspect.Goals as goal

pub returns-then-is_suspect_at : goal.returns-then-is_suspect_at
returns-then-is_suspect_at c = grind (arith, nat_tests, common_steps)
