use Rattle.test_uses.proofs.Outcomes.{where_some}
use Rattle.test_uses.proofs.bytes.parted_by_fault.Goals as goal

pub returns : goal.returns
returns c = where_some _ (λ fault is. c.ill_formed_parts.ensures _ _ _ is) c.utf8_fault.result c.utf8_fault.ensures
