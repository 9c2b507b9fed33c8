use Rattle.os_ignore.proofs.lemmas.Known.{known_line}
use Rattle.os_ignore.proofs.laws.known_line.Goals as goal

pub returns : goal.returns
returns g c = known_line
