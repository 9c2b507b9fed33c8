use Rattle.std.proofs.Common.{◌∙◌, IfSome, sym, subst}
use Rattle.wildcards.specs.Keys.{AreJoinedTexts}
use Rattle.wildcards.proofs.lemmas.Keys.{path_needed}
use Rattle.wildcards.proofs.key.key_of.Goals as goal

pub returns-in-Some : goal.returns-in-Some
returns-in-Some g c =
    path_needed c.args.options c.args.pieces.now c.in-Some.text.items (sym c.joins_by_slash.ensures ∙ c.if-joins_by_slash.true)
    (subst (λ z. IfSome z (λ text. AreJoinedTexts c.args.pieces.now text.items)) c.in-Some.is c.in_ok-text.ensures)
