use Rattle.std.proofs.Common.{subst}
use Rattle.os_ignore.specs.Verdicts.{IsVerdict}
use Rattle.test_path_uses.proofs.ignored.matched_by_text.Goals as goal

pub returns : goal.returns
returns g c =
    let only = c.in_ok-ignore.ensures in
    (only.file, (only.file_is, subst (λ files. IsVerdict files c.args.path.now c.args.is_dir c.matched.result) only.files_are c.matched.ensures))
