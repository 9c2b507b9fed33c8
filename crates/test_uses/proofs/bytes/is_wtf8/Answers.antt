use Rattle.std.proofs.Common.{rules}
use Rattle.test_uses.proofs.bytes.is_wtf8.Goals as goal

pub returns-in-Err : goal.returns-in-Err
returns-in-Err c =
    let fault = c.in-Err.ensures in
    ((λ no. search (rules, no)), (λ wtf8. absurd (c.encoded_or_faulty.ensures.never_both _ _ _ wtf8 fault.1)))
