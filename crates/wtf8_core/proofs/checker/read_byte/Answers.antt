use Rattle.wtf8_core.proofs.{Common.arith, lemmas.table.Pieces.read_off}
use Rattle.wtf8_core.proofs.checker.read_byte.Goals as goal

pub returns-in-Refused : goal.returns-in-Refused
returns-in-Refused c b h = read_off _ _ _ _ _ _ b _ (omega (arith, c.ranges.byte)) h c.class_at.ensures c.next_at-next.ensures (omega (arith, c.from.ensures)) c.in-Refused.is c.fault_at.ensures
