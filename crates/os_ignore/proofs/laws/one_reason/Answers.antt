use Rattle.os_ignore.proofs.lemmas.OneReason.{one_reason}
use Rattle.os_ignore.proofs.laws.one_reason.Goals as goal

pub returns : goal.returns
returns g c = one_reason _
