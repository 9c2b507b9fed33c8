use Rattle.wtf8_core.proofs.lemmas.reader.FaultIndices.{fault_read}
use Rattle.wtf8_core.proofs.wtf8.fault_in_rest.Goals as goal

pub returns-in-Err : goal.returns-in-Err
returns-in-Err c = fault_read c.type_inv.bytes c.loop-item.invariant c.in-Some.ensures.first _ c.in-Err.is
