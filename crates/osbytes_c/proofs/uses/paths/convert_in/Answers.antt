use Rattle.std.proofs.Common.{inl}
use Rattle.osbytes_c.proofs.lemmas.Built.{there}
use Rattle.osbytes_c.proofs.uses.paths.convert_in.Goals as goal

pub returns-in-0-clause-ok : goal.returns-in-0-clause-ok
returns-in-0-clause-ok c = (c.osb_core_path_convert.ensures.string (inl c.in-0.is), there (c.osb_core_path_convert.ensures.written.0 c.in-0.is))
