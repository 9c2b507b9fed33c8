use Rattle.osbytes_c.proofs.lemmas.Built.{unescaped_there}
use Rattle.osbytes_c.proofs.uses.strings.line_unescaped_in.Goals as goal

pub returns-in-0 : goal.returns-in-0
returns-in-0 c = unescaped_there (c.osb_core_unescape_line.ensures.written.0 c.in-0.is)
