use Rattle.std.proofs.Common.{subst}
use Rattle.os_ignore.specs.Ignores.{HasText}
use Rattle.test_path_uses.proofs.OneFile.{its_text}
use Rattle.test_path_uses.proofs.ignored.has_line.Goals as goal

pub returns-in-Some-clause-has : goal.returns-in-Some-clause-has
returns-in-Some-clause-has g c e =
    let only = c.in_ok-ignore.ensures in
    let text = c.in-Some.field-0.now in
    let has = subst (λ files. HasText files 0 c.args.line text) only.files_are c.in-Some.ensures in
    (text, its_text only.file c.args.content.now 0 c.args.line text only.file_is.content_is has)
