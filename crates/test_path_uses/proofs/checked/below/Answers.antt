use Rattle.test_path_uses.proofs.Both.{with_ok}
use Rattle.test_path_uses.proofs.checked.below.Goals as goal

pub returns-clause-begins : goal.returns-clause-begins
returns-clause-begins g c =
    with_ok c.join_checked.result c.join_checked.ensures.ok (λ joined h items more normal are more_are form. c.joined_below.ensures.begins _ _ _ _ h items more normal are more_are form)

pub returns-clause-stays : goal.returns-clause-stays
returns-clause-stays g c =
    with_ok c.join_checked.result c.join_checked.ensures.ok (λ joined h items more left are more_are form. c.joined_below.ensures.stays _ _ _ _ h items more left are more_are form)
