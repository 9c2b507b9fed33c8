use Rattle.osbytes_c.proofs.lemmas.Built.{there}
use Rattle.osbytes_c.proofs.uses.lines.words_in.Goals as goal

pub returns-in-0 : goal.returns-in-0
returns-in-0 c = there (c.osb_core_shell_words.ensures.written.0 c.in-0.is)
