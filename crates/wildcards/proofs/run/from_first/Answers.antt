use Rattle.std.proofs.Common.{◌∷◌, ◌∙◌, ap, sym, subst, arith}
use Rattle.wildcards.specs.declared.piece.Piece.TheVariants.{One}
use Rattle.wildcards.specs.Steps.{SkipsTo}
use Rattle.wildcards.proofs.lemmas.Skips.{skips_to}
use Rattle.wildcards.proofs.run.from_first.Goals as goal

pub returns : goal.returns
returns g c =
    let first = c.in-Some-One-Literal-default in
    subst (λ ps. SkipsTo g.L.Letters.formed g.L.Letters.letters ps c.args.text.now c.from_byte.result.now)
    (sym (first.ensures.cases.0 ∙ ap (λ t. t ∷ first.field-0-1.now) (first.field-0-0-is ∙ ap One first.field-0-0-0-is)))
    (skips_to g.L.Letters.formed g.L.Letters.letters g.met.L.Letters.laws first.letter first.field-0-1.now (omega (arith, c.if-letter-ge128.false)) c.args.text.now c.from_byte.result.now c.requires c.from_byte.ensures)
