use Rattle.test_uses.proofs.bytes.fault_once.Goals as goal

pub returns : goal.returns
returns c = (c.one_first_fault.ensures _ _ _ _ _ c.requires.first c.requires.second).0
