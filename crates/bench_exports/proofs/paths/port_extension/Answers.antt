use Rattle.std.proofs.Common.{refl, inl, inr}
use Rattle.platform_str.specs.Strings.{bytes}
use Rattle.bench_exports.proofs.paths.port_extension.Goals as goal

pub returns-in-Some : goal.returns-in-Some
returns-in-Some c = inr (bytes c.in-Some.extension, rw c.path.ensures at c.in-Some.ensures, c.len.ensures)

pub returns-in-None : goal.returns-in-None
returns-in-None c = inl (rw c.path.ensures at c.in-None.ensures, refl)
