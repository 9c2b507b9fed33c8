use Rattle.std.proofs.Common.{◌∷◌, ◌∙◌, ap, sym}
use Rattle.std.proofs.lemmas.List.{nil_from_length}
use Rattle.wildcards.specs.Literals.{spells, spells_some}
use Rattle.wildcards.proofs.lemmas.Keys.{next_text, all_texts}
use Rattle.wildcards.proofs.key.joined_texts.Goals as goal

pub loop-piece-preserved : goal.loop-piece-preserved
loop-piece-preserved g c =
    let own = c.in-Some-2.own.items in
    let spelled = ap (λ z. spells z own) (sym c.pieces.ensures) ∙ ap (spells_some c.pieces.result.now) (sym c.in-Some-2.is) ∙ c.in_ok-own.ensures in
    next_text c.args.pieces.now c.loop-piece.left.now c.in-Some.rest.now c.in-One.part
    (c.in-Some.ensures.cases.0 ∙ ap (λ t. t ∷ c.in-Some.rest.now) c.in-One.is)
    c.deref.result.now c.loop-piece.text.items (ap (spells c.in-One.part.pieces.items) c.deref.ensures.value ∙ spelled) c.loop-piece.first _ _
    c.in_ok-push_slash.ensures c.in_ok-extend_from_slice.ensures.items c.loop-piece.invariant

pub returns : goal.returns
returns g c = all_texts c.args.pieces.now c.loop-piece.left.now c.loop-piece.text.items c.loop-piece.first (nil_from_length _ c.in_default.ensures.cases) c.loop-piece.invariant
