use Rattle.std.proofs.Common.{sym, subst}
use Rattle.std.specs.Prelude.{IsTrue}
use Rattle.os_path.proofs.compared.are_equal.Goals as goal

pub returns : goal.returns
returns c =
    let keys = c.comparisons.ensures.equal in
    let alike = c.alike_keys.ensures _ _ _ _ _ c.new-one.ensures c.new-two.ensures in
    (λ t. alike.0 (keys.0 (subst IsTrue c.eq.ensures t)), λ h. subst IsTrue (sym c.eq.ensures) (keys.1 (alike.1 h)))
