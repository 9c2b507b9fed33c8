use Rattle.os_ignore.proofs.lemmas.OneMeaning.{not_both}
use Rattle.os_ignore.proofs.laws.never_both.Goals as goal

pub returns : goal.returns
returns g c = not_both
