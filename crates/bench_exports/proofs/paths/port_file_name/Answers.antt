use Rattle.std.proofs.Common.{refl, inl}
use Rattle.bench_exports.proofs.paths.port_file_name.Goals as goal

pub returns-in-None : goal.returns-in-None
returns-in-None c = inl (rw c.path.ensures at c.in-None.ensures, refl)
