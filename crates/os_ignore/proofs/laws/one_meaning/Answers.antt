use Rattle.os_ignore.proofs.lemmas.OneMeaning.{one_meaning}
use Rattle.os_ignore.proofs.laws.one_meaning.Goals as goal

pub returns : goal.returns
returns g c = one_meaning
