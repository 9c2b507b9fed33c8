use Rattle.std.proofs.Common.{subst}
use Rattle.os_ignore.specs.Ignores.{files_of}
use Rattle.os_ignore.specs.Verdicts.{IsVerdict}
use Rattle.test_path_uses.proofs.ignored.before_and_after.Goals as goal

pub returns-in-Err : goal.returns-in-Err
returns-in-Err g c =
    let after = subst (λ z. IsVerdict z c.args.path.now c.args.is_dir c.matched.result) c.in-Err.ensures.unchanged c.matched.ensures in
    c.one_verdict.ensures (files_of c.args.ignore.now) c.args.path.now c.args.is_dir c.matched-before.result c.matched.result c.matched-before.ensures after
