use Rattle.test_uses.proofs.TrimsAgain.{trim_again}
use Rattle.test_uses.proofs.agreements.trimmed_twice.Goals as goal

pub returns : goal.returns
returns g c = trim_again _ _ _ _ (c.trim_matches-once.ensures.bytes c.requires) (c.trim_matches-again.ensures.bytes c.requires)
