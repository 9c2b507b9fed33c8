use Rattle.os_ignore.proofs.lemmas.Below.{walked_verdict}
use Rattle.os_ignore.proofs.laws.walked_verdict.Goals as goal

pub returns : goal.returns
returns g c = walked_verdict
