use Rattle.os_quote.proofs.Common.{arith, nil_from_length, eqb-true}
use Rattle.os_quote.proofs.write_walk.write_unchanged.Goals as goal

pub returns-then-is_empty : goal.returns-then-is_empty
returns-then-is_empty g c = grind (arith, nil_from_length, eqb-true)
