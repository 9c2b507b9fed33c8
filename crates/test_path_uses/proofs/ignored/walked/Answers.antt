use Rattle.std.proofs.Common.{subst}
use Rattle.os_ignore.specs.Ignores.{files_of}
use Rattle.os_ignore.specs.Verdicts.{IsVerdict}
use Rattle.test_path_uses.proofs.ignored.walked.Goals as goal

pub returns : goal.returns
returns g c =
    let walked = subst (λ files. ∥ IsVerdict files c.args.path.now c.args.is_dir c.in_ok-walked.walked ∥₁) c.requires c.in_ok-walked.ensures.verdict in
    c.walked_verdict.ensures (files_of c.args.ignore.now) c.args.path.now c.args.is_dir c.in_ok-walked.walked c.matched-2.result walked c.matched-2.ensures
