use Rattle.std.proofs.Common.{refl, inl}
use Rattle.bench_exports.proofs.symbols.port_split_first_char.Goals as goal

pub returns-in-None : goal.returns-in-None
returns-in-None c = inl (rw c.unix.ensures at c.in-None.ensures.bytes, refl)
