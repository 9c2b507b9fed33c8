use Rattle.test_uses.proofs.Outcomes.{only_err}
use Rattle.test_uses.proofs.bytes.check_says.Goals as goal

pub returns : goal.returns
returns c =
    only_err _ c.check.result c.check.ensures
    (λ wtf8. c.encoded_or_faulty.ensures.never_both _ _ _ wtf8 c.requires)
    (λ fault is. (c.one_first_fault.ensures _ _ _ _ _ is.1 c.requires).1)
