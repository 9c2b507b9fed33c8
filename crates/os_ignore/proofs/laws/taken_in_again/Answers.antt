use Rattle.os_ignore.proofs.lemmas.OneMeaning.{taken_again}
use Rattle.os_ignore.proofs.laws.taken_in_again.Goals as goal

pub returns : goal.returns
returns g c = taken_again
