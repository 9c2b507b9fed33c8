use Rattle.wtf8_core.specs.Wtf8.{IsWtf8}
use Rattle.test_uses.proofs.Outcomes.{only_some, pair_of}
use Rattle.test_uses.proofs.laws.fault_index_says.Goals as goal

pub returns : goal.returns
returns c =
    only_some (IsWtf8 c.args.raw.now) c.wtf8_fault.result c.wtf8_fault.ensures (λ formed. c.encoded_or_faulty.ensures.never_both _ _ _ formed c.requires.first)
    (λ fault is. pair_of fault _ _ (c.one_fault_index.ensures _ _ _ _ _ is c.requires))
