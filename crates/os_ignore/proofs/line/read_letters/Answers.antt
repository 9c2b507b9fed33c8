use Rattle.std.proofs.Common.{sym, ap, subst, refl, ◌∙◌}
use Rattle.os_ignore.specs.Lines.{EndsQuoted, quoted_slash, empty, broken, after_literal, literal_prefix}
use Rattle.os_ignore.specs.PatternText.{IsPattern, IsBrokenPattern}
use Rattle.os_ignore.specs.Tags.{IsTagOf}
use Rattle.os_ignore.proofs.lemmas.Bodies.{body_is}
use Rattle.os_ignore.proofs.lemmas.Rests as rests
use Rattle.os_ignore.proofs.line.read_letters.Goals as goal

pub returns-in_default-clause-line : goal.returns-in_default-clause-line
returns-in_default-clause-line g c = quoted_slash c.trim.ensures (subst EndsQuoted (ap (λ p. p.1) c.strip_first-takes_in.ensures) c.in_default.ensures) refl

pub returns-then-is_empty-clause-line : goal.returns-then-is_empty-clause-line
returns-then-is_empty-clause-line g c =
    let body = body_is _ _ _ _ _ _ c.trim.ensures c.strip_first-takes_in.ensures c.in-Some.ensures in
    empty body (sym (ap (λ p. p.1) c.strip_first.ensures) ∙ rests.empty c.strip_first.result.1.now (sym c.is_empty.ensures ∙ c.if-is_empty.true)) refl

pub returns-in_default-2-clause-line : goal.returns-in_default-2-clause-line
returns-in_default-2-clause-line g c =
    let body = body_is _ _ _ _ _ _ c.trim.ensures c.strip_first-takes_in.ensures c.in-Some.ensures in
    let read = rw c.in_default-2.is at c.in_ok-pattern.ensures in
    broken body (subst (IsBrokenPattern c.args.folds _) (c.in_ok-literal.ensures.1 ∙ ap (λ p. after_literal p.1) c.strip_first.ensures) read) refl

pub returns-clause-line : goal.returns-clause-line
returns-clause-line g c =
    let body = body_is _ _ _ _ _ _ c.trim.ensures c.strip_first-takes_in.ensures c.in-Some.ensures in
    let read = rw c.in-Some-2.is at c.in_ok-pattern.ensures in
    let same = ap (λ p. p.1) c.strip_first.ensures in (
      refl,
      record {
        body = c.in-Some.whole.now;
        read = body;
        folds_is = refl;
        anchored = c.has_slash-anchored.ensures;
        some = λ e. rests.not_empty c.strip_first.result.1.now (sym c.is_empty.ensures ∙ c.if-is_empty.false) (same ∙ e);
        literal = c.in_ok-literal.ensures.0 ∙ ap (literal_prefix c.args.folds) same;
        pattern = subst (λ z. IsPattern c.args.folds z c.in-Some-2.pattern.items) (c.in_ok-literal.ensures.1 ∙ ap after_literal same) read;
      },
    )

pub returns-clause-tag : goal.returns-clause-tag
returns-clause-tag g c =
    subst (λ z. IsTagOf c.args.folds c.has_slash-anchored.result z c.in-Some-2.pattern.items c.in_ok-tag.tag) c.deref.ensures.value
    (c.in_ok-tag.ensures c.in-Some-2.pattern.items (rw c.in-Some-2.is at c.in_ok-pattern.ensures))
