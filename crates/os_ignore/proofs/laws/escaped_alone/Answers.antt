use Rattle.os_ignore.proofs.lemmas.Escaped.{escaped_alone}
use Rattle.os_ignore.proofs.laws.escaped_alone.Goals as goal

pub returns : goal.returns
returns g c = escaped_alone
