use Rattle.test_uses.proofs.TrimsAgain.{end_again}
use Rattle.test_uses.proofs.agreements.trimmed_twice_at_the_end.Goals as goal

pub returns : goal.returns
returns g c = end_again _ _ _ (c.trim_end_matches-once.ensures.bytes c.requires).done (c.trim_end_matches-again.ensures.bytes c.requires)
