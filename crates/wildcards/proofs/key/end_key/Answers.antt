use Rattle.std.proofs.Common.{IfSome, subst}
use Rattle.std.proofs.lemmas.Result.{IfOk-weaker}
use Rattle.wildcards.specs.Keys.{EndsWith, IsOfEnd}
use Rattle.wildcards.proofs.lemmas.Keys.{end_needed, some_weaker}
use Rattle.wildcards.proofs.key.end_key.Goals as goal

pub returns : goal.returns
returns g c =
    let text = c.in-Some.text.items in
    let needed = subst (λ z. IfSome z (λ t. EndsWith c.args.options c.args.pieces.now t.items)) c.in-Some.is c.in_ok-text.ensures in
    IfOk-weaker c.key_of_end.result _ _
    (λ found of_end. some_weaker _ _ found (λ key is. end_needed c.args.options c.args.pieces.now text key.text.items key.kind key.size needed (subst (λ t. IsOfEnd t key.kind key.size key.text.items) c.deref.ensures.value is)) of_end)
    c.key_of_end.ensures
