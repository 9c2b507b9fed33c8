use Rattle.std.proofs.Common.{◌∷◌, [], ◌++◌, ◌∙◌, ap, sym, refl}
use Rattle.std.proofs.lemmas.Result.{IfOk-weaker}
use Rattle.wildcards.proofs.lemmas.Keys.{ends_with, of_some_text}
use Rattle.wildcards.proofs.key.literal_end.Goals as goal

pub returns : goal.returns
returns g c =
    let last = c.in-Some-One-default in
    IfOk-weaker c.literal_text.result _ _
    (λ text spelled. of_some_text _ _ _ spelled (λ own is.
    ends_with c.args.options c.args.pieces.now last.field-0-1.now [] last.part
    (last.ensures.cases.0 ∙ ap (λ t. last.field-0-1.now ++ t ∷ []) last.field-0-0-is)
    c.split_at.result.0.now c.split_at.result.1.now own
    (sym c.pieces-own.ensures ∙ c.split_at.ensures.by_index.0) is refl))
    c.literal_text.ensures
