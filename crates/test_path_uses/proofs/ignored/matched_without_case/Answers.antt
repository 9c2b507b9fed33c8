use Rattle.std.proofs.Common.{true, subst}
use Rattle.os_ignore.specs.Ignores.{files_of}
use Rattle.os_ignore.specs.Verdicts.{IsVerdict}
use Rattle.test_path_uses.proofs.OneFile.{first_added}
use Rattle.test_path_uses.proofs.ignored.matched_without_case.Goals as goal

pub returns : goal.returns
returns g c =
    let only = first_added true c.args.content.now (files_of c.empty-ignore.result) (files_of c.add_with.new.self) c.empty-ignore.ensures c.in_ok-add_with.ensures.added in
    (only.0, (only.1.1, subst (λ files. IsVerdict files c.args.path.now c.args.is_dir c.matched.result) only.1.0 c.matched.ensures))
