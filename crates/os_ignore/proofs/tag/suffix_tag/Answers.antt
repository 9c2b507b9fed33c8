use Rattle.std.proofs.Common.{rules, ◌≡◌, true, sym, subst, ◌∙◌}
use Rattle.os_ignore.specs.Tags.{IsExtension}
use Rattle.os_ignore.proofs.lemmas.Rests.{empty}
use Rattle.os_ignore.proofs.lemmas.Tags.{suffix_tag, no_tag}
use Rattle.os_ignore.proofs.tag.suffix_tag.Goals as goal

pub returns-in-Some : goal.returns-in-Some
returns-in-Some g c =
    let star : c.is_plain.result ≡ true = search rules in
    let none : c.is_empty.result ≡ true = search rules in
    suffix_tag c.args.folds c.args.star c.args.rest.now (sym c.is_plain.ensures ∙ star)
    (sym c.in_ok-suffix.ensures.1 ∙ empty c.in_ok-suffix.left.now (sym c.is_empty.ensures ∙ none))
    c.in_ok-suffix.suffix.items c.in-Some.text.now c.in_ok-suffix.ensures.0
    (subst (λ z. IsExtension z c.in-Some.text.now) c.deref.ensures.value c.in-Some.ensures)
    c.args.anchored c.args.literal.now c.tag_of.result c.tag_of.ensures

pub returns-then-not-is_plain : goal.returns-then-not-is_plain
returns-then-not-is_plain g c = λ pattern p. no_tag c.args.folds c.args.anchored c.args.literal.now pattern
