use Rattle.os_ignore.proofs.lemmas.SameFiles.{silent_line}
use Rattle.os_ignore.proofs.laws.silent_line.Goals as goal

pub returns : goal.returns
returns g c = silent_line
