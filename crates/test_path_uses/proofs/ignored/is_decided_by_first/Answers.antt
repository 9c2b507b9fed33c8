use Rattle.std.proofs.Common.{◌∙◌, ap, nat_eq}
use Rattle.os_ignore.specs.Ignores.{files_of}
use Rattle.test_path_uses.proofs.OneFile.{ignored_number, taken_number}
use Rattle.test_path_uses.proofs.ignored.is_decided_by_first.Goals.{in-Neither, in-Ignored, in-TakenIn}
use Rattle.test_path_uses.proofs.ignored.is_decided_by_first.Goals as goal

pub returns : goal.returns
returns g c =
    let content = c.args.content.now in
    let files = files_of c.in_ok-ignore.ignore in
    let only = c.in_ok-ignore.ensures in
    elim c.match-matched.branch [
      | in-Neither w ↦ w.result-is
      | in-Ignored w ↦ w.result-is ∙ ap (λ n. nat_eq n 0) (ignored_number content files only c.args.path.now c.args.is_dir w.in-Ignored.file w.in-Ignored.line w.in-Ignored.ensures)
      | in-TakenIn w ↦ w.result-is ∙ ap (λ n. nat_eq n 0) (taken_number content files only c.args.path.now c.args.is_dir w.in-TakenIn.file w.in-TakenIn.line w.in-TakenIn.ensures)
    ]
