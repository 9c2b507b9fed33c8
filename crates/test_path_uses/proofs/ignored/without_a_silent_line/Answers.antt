use Rattle.std.proofs.Common.{[], false, subst}
use Rattle.os_ignore.specs.Verdicts.{IsVerdict}
use Rattle.test_path_uses.proofs.ignored.without_a_silent_line.Goals as goal

pub returns : goal.returns
returns g c =
    let first = c.in_ok-first.ensures in
    let second = c.in_ok-second.ensures in
    let v = subst (λ files. IsVerdict files c.args.path.now c.args.is_dir c.matched.result) first.files_are c.matched.ensures in
    let w = subst (λ files. IsVerdict files c.args.path.now c.args.is_dir c.matched-2.result) second.files_are c.matched-2.ensures in
    c.silent_line.ensures false c.args.content.now c.args.other.now c.requires 0 [] first.file second.file first.file_is second.file_is [] [] c.args.path.now c.args.is_dir c.matched.result c.matched-2.result v w
