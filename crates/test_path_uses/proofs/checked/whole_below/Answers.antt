use Rattle.test_path_uses.proofs.Both.{with_ok}
use Rattle.test_path_uses.proofs.checked.whole_below.Goals as goal

pub returns : goal.returns
returns g c = with_ok c.join_checked.result c.join_checked.ensures.ok (λ joined h. c.joined_below.ensures.no_nul _ _ _ _ h)
