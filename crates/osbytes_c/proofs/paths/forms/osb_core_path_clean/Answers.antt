use Rattle.osbytes_c.proofs.lemmas.Built.{written}
use Rattle.osbytes_c.proofs.paths.forms.osb_core_path_clean.Goals as goal

pub returns-in-Ok-clause-written : goal.returns-in-Ok-clause-written
returns-in-Ok-clause-written c = written (rw c.in-Some.ensures.1 at c.in-Ok.ensures) c.deref.ensures.value c.write_list.ensures.written
