use Rattle.wtf8_core.proofs.lemmas.reader.FaultIndices.{fault_read}
use Rattle.wtf8_core.proofs.wtf8.wtf8_fault.Goals as goal

pub returns-in-Err : goal.returns-in-Err
returns-in-Err c = fault_read c.type_inv.bytes c.loop.invariant c.in_ok-item.ensures.first _ c.in-Err.is
