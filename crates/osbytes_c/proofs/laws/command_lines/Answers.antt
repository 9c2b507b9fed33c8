use Rattle.osbytes_c.proofs.lemmas.CommandLines.{joined}
use Rattle.osbytes_c.proofs.laws.command_lines.Goals as goal

pub returns : goal.returns
returns c = joined
