use Rattle.std.proofs.Common.{List, sym, subst}
use Rattle.std.specs.Prelude.{IfOk}
use Rattle.wildcards.specs.declared.part.Part.{Part}
use Rattle.wildcards.specs.declared.piece.Piece.{Piece}
use Rattle.os_ignore.specs.PatternText.{IsPattern}
use Rattle.os_ignore.specs.Tags.{IsTagOf}
use Rattle.os_ignore.proofs.lemmas.Tags.{start_tag, nil_of_length}
use Rattle.os_ignore.proofs.tag.line_tag.Goals as goal

pub returns-in-Some : goal.returns-in-Some
returns-in-Some g c =
    λ pattern p.
    subst (λ z. IsTagOf c.args.folds z c.args.literal.now pattern c.tag_of.result) (sym c.if-anchored.true)
    (start_tag c.args.folds c.args.literal.now c.in-Some.text.now c.in-Some.field-0-1.now c.in-Some.ensures.cut.0 c.in-Some.ensures.cut.1 c.tag_of.result c.tag_of.ensures pattern)

pub returns-in-Some-split_first : goal.returns-in-Some-split_first
returns-in-Some-split_first g c =
    subst (λ z. IfOk c.suffix_tag.result (λ tag. (pattern : List (Piece (Part _))) → IsPattern c.args.folds z pattern → IsTagOf c.args.folds c.args.anchored c.args.literal.now pattern tag))
    (sym c.in-Some-split_first.ensures.cases.0) c.suffix_tag.ensures

pub returns-in-None : goal.returns-in-None
returns-in-None g c =
    λ pattern p.
    c.whole_tag.ensures pattern (subst (λ z. IsPattern c.args.folds z pattern) (nil_of_length c.args.rest.now c.in-None.ensures.cases) p)
