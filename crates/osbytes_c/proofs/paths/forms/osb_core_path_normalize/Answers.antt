use Rattle.osbytes_c.proofs.lemmas.Built.{written}
use Rattle.osbytes_c.proofs.paths.forms.osb_core_path_normalize.Goals as goal

pub returns-in-Err-NoName-clause-none : goal.returns-in-Err-NoName-clause-none
returns-in-Err-NoName-clause-none c is = rw (c.in-Err-NoName.field-0-is, c.in-Some.ensures.1) at c.in-Err-NoName.ensures.err

pub returns-in-Ok-clause-written : goal.returns-in-Ok-clause-written
returns-in-Ok-clause-written c = written (rw c.in-Some.ensures.1 at c.in-Ok.ensures.ok) c.deref.ensures.value c.write_list.ensures.written
