use Rattle.std.proofs.Common.{◌∷◌, ◌∙◌, ap, subst}
use Rattle.wildcards.specs.Cuts.{left_components, IsLeftFormed}
use Rattle.wildcards.specs.Match.{MatchesParts}
use Rattle.wildcards.specs.declared.piece.Piece.TheVariants.{Many}
use Rattle.wildcards.proofs.lemmas.Texts.{never_after}
use Rattle.wildcards.proofs.path.lacks_text.Goals as goal

pub returns-in-Some-text : goal.returns-in-Some-text
returns-in-Some-text g c e o m =
    let one = c.in-Some-One-default in
    never_after g.L.Letters.formed g.L.Letters.letters g.met.L.Letters.laws c.args.pieces.now one.field-0-1.now one.part c.in-Some-text.text.now c.in-Some.path.now
    (one.ensures.cases.0 ∙ ap (λ t. t ∷ one.field-0-1.now) one.field-0-0-is)
    c.in-Some-text.ensures
    (subst (IsLeftFormed g.L.Letters.formed) c.in-Some.is c.requires)
    (c.lacks.ensures e) o
    (subst (λ z. MatchesParts o.literal_leading_dot (Many ∷ c.args.pieces.now) (left_components g.L.Letters.letters o.separators z)) c.in-Some.is m)
