use Rattle.std.proofs.Common.{◌∷◌, ◌++◌, [], ◌∙◌, ap, subst}
use Rattle.wildcards.specs.Ends.{EndsOtherwise}
use Rattle.wildcards.proofs.lemmas.Ends.{never_ends}
use Rattle.wildcards.proofs.path.ends_otherwise.Goals as goal

pub returns : goal.returns
returns g c e o m =
    let last = c.in-Some-One-default in
    let path = g.L.Letters.letters c.args.path.now in
    never_ends c.args.pattern.now last.field-0-1.now last.part (last.ensures.cases.0 ∙ ap (λ t. last.field-0-1.now ++ t ∷ []) last.field-0-0-is) path
    (subst (λ z. EndsOtherwise z path) c.pieces.ensures (c.ends_otherwise.ensures e)) o m
