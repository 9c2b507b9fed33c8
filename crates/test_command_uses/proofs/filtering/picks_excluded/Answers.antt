use Rattle.std.proofs.lemmas.Result.{IfOk-weaker}
use Rattle.test_command_uses.proofs.filtering.picks_excluded.Goals as goal

pub returns : goal.returns
returns g c = IfOk-weaker c.picks.result _ _ (λ picks said yes. (said.0 yes).1 c.requires.excluded) c.picks.ensures.picks
