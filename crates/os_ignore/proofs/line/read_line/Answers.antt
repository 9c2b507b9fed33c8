use Rattle.std.proofs.Common.{sym, subst, refl, ◌∙◌}
use Rattle.os_ignore.specs.Letters.{AreLetters}
use Rattle.os_ignore.specs.Lines.{comment, dangling}
use Rattle.os_ignore.proofs.lemmas.LineReadings.{said}
use Rattle.os_ignore.proofs.line.read_line.Goals as goal

pub returns-then-is_comment-clause-line : goal.returns-then-is_comment-clause-line
returns-then-is_comment-clause-line g c = comment (sym c.is_comment.ensures ∙ c.if-is_comment.true) refl

pub returns-in_default-clause-line : goal.returns-in_default-clause-line
returns-in_default-clause-line g c = dangling (sym c.is_comment.ensures ∙ c.if-is_comment.false) (rw c.in_default.is at c.in_ok-letters.ensures) refl

pub returns-clause-line : goal.returns-clause-line
returns-clause-line g c =
    let read = rw c.in-Some.is at c.in_ok-letters.ensures in
    let letters = subst (AreLetters c.args.text.now) (sym c.deref.ensures.value) read in
    said c.args.folds c.args.text.now c.deref.result.now (sym c.is_comment.ensures ∙ c.if-is_comment.false) letters c.args.number c.read_letters.result c.read_letters.ensures.line
