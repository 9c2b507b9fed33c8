use Rattle.os_ignore.proofs.lemmas.OneVerdict.{one_verdict}
use Rattle.os_ignore.proofs.laws.one_verdict.Goals as goal

pub returns : goal.returns
returns g c = one_verdict
