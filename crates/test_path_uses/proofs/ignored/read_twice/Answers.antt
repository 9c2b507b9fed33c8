use Rattle.std.proofs.Common.{[], ◌∷◌, false, subst}
use Rattle.os_ignore.specs.Ignores.{AreOfOneText}
use Rattle.os_ignore.specs.Verdicts.{IsVerdict}
use Rattle.test_path_uses.proofs.ignored.read_twice.Goals as goal

pub returns : goal.returns
returns g c =
    let first = c.in_ok-first.ensures in
    let second = c.in_ok-second.ensures in
    let v = subst (λ files. IsVerdict files c.args.path.now c.args.is_dir c.matched.result) first.files_are c.matched.ensures in
    let w = subst (λ files. IsVerdict files c.args.path.now c.args.is_dir c.matched-2.result) second.files_are c.matched-2.ensures in
    let one : AreOfOneText first.file second.file = record { folds = false; number = 0; directory = []; content = c.args.content.now; file_is = first.file_is; other_is = second.file_is } in
    c.by_text.ensures (first.file ∷ []) (second.file ∷ []) (one, tt) c.args.path.now c.args.is_dir c.matched.result c.matched-2.result v w
