use Rattle.test_uses.proofs.Outcomes.{only_err}
use Rattle.test_uses.proofs.views.view_refused.Goals as goal

pub returns : goal.returns
returns g c =
    only_err _ c.checked.result c.checked.ensures.cases
    (λ formed. c.faults.ensures.faulty _ _ c.requires formed)
    (λ fault is. c.faults.ensures.one_fault _ _ _ is c.requires)
