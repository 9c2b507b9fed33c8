use Rattle.std.proofs.Common.{refl, inl}
use Rattle.bench_exports.proofs.search.port_split_once.Goals as goal

pub returns-in-None : goal.returns-in-None
returns-in-None c = inl (rw (c.text.ensures, c.unix.ensures) at c.in-None.ensures.bytes, refl)
