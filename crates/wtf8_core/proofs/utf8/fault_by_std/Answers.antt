use Rattle.wtf8_core.proofs.lemmas.texts.StdFaults.{fault_of}
use Rattle.wtf8_core.proofs.utf8.fault_by_std.Goals as goal

pub returns-in-Some : goal.returns-in-Some
returns-in-Some c = fault_of c.args.bytes.now _ _ _ _ c.valid_up_to.ensures c.in-Err.ensures.cases.1 c.in-Err.ensures.fault c.in-Some.ensures

pub returns-in-None : goal.returns-in-None
returns-in-None c = fault_of c.args.bytes.now _ _ _ _ c.valid_up_to-in-None.ensures c.in-Err.ensures.cases.1 c.in-Err.ensures.fault c.in-None.ensures
