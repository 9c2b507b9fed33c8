use Rattle.std.proofs.Common.{sym, subst}
use Rattle.std.specs.Prelude.{IsTrue}
use mathlib.Core.Bool.{beq}
use Rattle.platform_str.specs.Strings.{path_bytes}
use Rattle.test_path_uses.proofs.Stripped.{strips}
use Rattle.test_path_uses.proofs.comparisons.strips_as_starts.Goals as goal

pub returns : goal.returns
returns g c =
    subst (λ some. IsTrue (beq some c.starts_with.result)) (sym c.is_some.ensures)
    (strips path_bytes g.E.PathStyle.follows (path_bytes c.args.path) (path_bytes c.args.base) c.strip_prefix.result c.starts_with.result c.strip_prefix.ensures c.starts_with.ensures)
