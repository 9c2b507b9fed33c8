use Rattle.std.proofs.Common.{rules, ◌≡◌, true, false, sym, subst}
use Rattle.os_ignore.specs.Tags.{IsTagOf}
use Rattle.os_ignore.proofs.lemmas.Tags.{path_tag, one_name_tag, name_tag}
use Rattle.os_ignore.proofs.tag.whole_tag.Goals as goal

pub returns-then-not-anchored : goal.returns-then-not-anchored
returns-then-not-anchored g c =
    λ pattern p.
    let loose : c.args.anchored ≡ false = search rules in
    subst (λ z. IsTagOf c.args.folds z c.args.literal.now pattern c.tag_of.result) (sym loose) (name_tag c.args.folds c.args.literal.now c.tag_of.result c.tag_of.ensures pattern p)

pub returns-in-Some : goal.returns-in-Some
returns-in-Some g c =
    λ pattern p.
    let tied : c.args.anchored ≡ true = search rules in
    subst (λ z. IsTagOf c.args.folds z c.args.literal.now pattern c.tag_of-in-Some.result) (sym tied)
    (path_tag c.args.folds c.args.literal.now c.in-Some.field-0-0.now c.in-Some.name.now c.in-Some.ensures.0 c.in-Some.ensures.1 c.tag_of-in-Some.result c.tag_of-in-Some.ensures pattern p)

pub returns-in-None : goal.returns-in-None
returns-in-None g c =
    λ pattern p.
    let tied : c.args.anchored ≡ true = search rules in
    subst (λ z. IsTagOf c.args.folds z c.args.literal.now pattern c.tag_of-in-None.result) (sym tied)
    (one_name_tag c.args.folds c.args.literal.now c.in-None.ensures c.tag_of-in-None.result c.tag_of-in-None.ensures pattern p)
