use Rattle.wtf8_core.proofs.lemmas.reader.FaultIndices.{one_fault_index}
use Rattle.wtf8_core.proofs.laws.one_fault_index.Goals as goal

pub returns : goal.returns
returns c = one_fault_index
