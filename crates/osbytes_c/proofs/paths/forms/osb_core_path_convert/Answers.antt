use Rattle.osbytes_c.proofs.lemmas.Built.{written}
use Rattle.osbytes_c.proofs.paths.forms.osb_core_path_convert.Goals as goal

pub returns-in-Ok-clause-written : goal.returns-in-Ok-clause-written
returns-in-Ok-clause-written c = written (rw (c.in-Some.ensures.1, c.in-Some-style_of.ensures.1) at c.in-Ok.ensures.ok) c.deref.ensures.value c.write_list.ensures.written
