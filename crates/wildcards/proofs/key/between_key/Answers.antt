use Rattle.std.proofs.Common.{◌∷◌, ◌∙◌, IfSome, ap, subst, sym}
use Rattle.std.proofs.lemmas.Bool.{eqb-true}
use Rattle.std.proofs.lemmas.List.{nil_from_length}
use Rattle.wildcards.specs.Keys.{IsBetween}
use Rattle.wildcards.proofs.lemmas.Keys.{between_needed}
use Rattle.wildcards.proofs.key.between_key.Goals as goal

pub returns : goal.returns
returns g c =
    let one = c.in-Some-One-default in
    let between = subst (λ z. IfSome z (λ text. IsBetween c.pieces.result.now text.items)) c.in-Some.is c.in_ok-text.ensures in
    between_needed c.args.options c.args.pieces.now one.rest.now one.part c.in-Some.text.items c.requires
    (one.ensures.cases.0 ∙ ap (λ t. t ∷ one.rest.now) one.field-0-0-is)
    (nil_from_length _ (eqb-true _ _ (sym c.is_empty.ensures ∙ c.if-not-is_empty.false)))
    (subst (λ z. IsBetween z c.in-Some.text.items) c.pieces.ensures between)
