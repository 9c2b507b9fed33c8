use Rattle.std.proofs.Common.{◌≡◌, true, false, refl}
use Rattle.test_path_uses.proofs.Both.{answered_if, not_answered_if}
use Rattle.test_path_uses.proofs.Forms.{has_form}
use Rattle.test_path_uses.proofs.normal_forms.has_normal_form.Goals as goal
use Rattle.test_path_uses.proofs.normal_forms.has_normal_form.Goals.{in-Ok, in-Err-NoName, in-Err-Memory}

pub returns : goal.returns
returns g c =
    elim c.match-normalize.branch [
      | in-Ok w ↦ answered_if _ _ _ true w.result-is (λ even. (λ t. has_form _ _ _ w.in-Ok.ensures.ok even, λ n. refl))
      | in-Err-NoName w ↦ answered_if _ _ _ false w.result-is (λ even. (λ t. let never : false ≡ true = t in cc, λ n. absurd ((rw w.in-Err-NoName.field-0-is at w.in-Err-NoName.ensures.err).1 n.0 n.1.0 n.1.1.0 n.1.1.1)))
      | in-Err-Memory w ↦ not_answered_if _ _ _ w.result-is
    ]
