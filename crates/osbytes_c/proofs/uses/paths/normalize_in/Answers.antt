use Rattle.osbytes_c.proofs.lemmas.Built.{there}
use Rattle.osbytes_c.proofs.uses.paths.normalize_in.Goals as goal

pub returns-in-0-clause-ok : goal.returns-in-0-clause-ok
returns-in-0-clause-ok c = there (c.osb_core_path_normalize.ensures.written.0 c.in-0.is)
