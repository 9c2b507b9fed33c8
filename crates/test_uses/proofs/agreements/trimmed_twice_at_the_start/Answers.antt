use Rattle.test_uses.proofs.TrimsAgain.{start_again}
use Rattle.test_uses.proofs.agreements.trimmed_twice_at_the_start.Goals as goal

pub returns : goal.returns
returns g c = start_again _ _ _ (c.trim_start_matches-once.ensures.bytes c.requires).done (c.trim_start_matches-again.ensures.bytes c.requires)
