use Rattle.osbytes_c.proofs.lemmas.Built.{written}
use Rattle.osbytes_c.proofs.paths.joins.osb_core_path_relative.Goals as goal

pub returns-in-Ok-Some-clause-written : goal.returns-in-Ok-Some-clause-written
returns-in-Ok-Some-clause-written c = written (rw (c.in-Ok-Some.field-0-is, c.in-Some.ensures.1) at c.in-Ok-Some.ensures) c.deref.ensures.value c.write_list.ensures.written

pub returns-in-Ok-None-clause-none : goal.returns-in-Ok-None-clause-none
returns-in-Ok-None-clause-none c is = rw (c.in-Ok-None.field-0-is, c.in-Some.ensures.1) at c.in-Ok-None.ensures
