use Rattle.std.proofs.Common.{sym, subst}
use Rattle.std.specs.Prelude.{IsTrue}
use Rattle.test_path_uses.proofs.Both.{both}
use Rattle.test_path_uses.proofs.comparisons.are_equal.Goals as goal

pub returns : goal.returns
returns g c =
    let law = both c.comparisons.ensures.equal (c.alike_keys.ensures _ _ _ _ _ c.new-path.ensures.keys c.new-other.ensures.keys) in
    (λ t. law.0 (subst IsTrue c.eq.ensures t), λ h. subst IsTrue (sym c.eq.ensures) (law.1 h))
