use Rattle.os_ignore.proofs.lemmas.SameFiles.{by_text}
use Rattle.os_ignore.proofs.laws.by_text.Goals as goal

pub returns : goal.returns
returns g c = by_text
