use Rattle.os_args.proofs.lemmas.Joined.{nothing_lost}
use Rattle.os_args.proofs.laws.nothing_lost.Goals as goal

pub returns : goal.returns
returns c = nothing_lost
