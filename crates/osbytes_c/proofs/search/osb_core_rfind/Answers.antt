use Rattle.std.proofs.Common.{refl}
use Rattle.osbytes_c.proofs.search.osb_core_rfind.Goals as goal

pub returns-in-None-clause-none : goal.returns-in-None-clause-none
returns-in-None-clause-none c is = (rw (c.in-Some.ensures, c.unix.ensures) at c.in-None.ensures.bytes, refl)
