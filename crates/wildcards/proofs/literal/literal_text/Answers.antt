use Rattle.std.proofs.Common.{◌≡◌, ◌<◌, ◌∷◌, ◌++◌, ◌∙◌, true, ap, sym, subst, append-nil, map, refl}
use Rattle.wildcards.specs.declared.piece.Piece.TheVariants.{One}
use Rattle.std.specs.List.{AllByRecursion}
use Rattle.std.proofs.lemmas.List.{nil_from_length}
use Rattle.wildcards.specs.Literals.{spells}
use Rattle.wildcards.proofs.lemmas.Literals.{literal_piece, spells_text, more_text, all_more}
use Rattle.wildcards.proofs.literal.literal_text.Goals as goal

pub returns : goal.returns
returns g c =
    let all = c.loop-first.invariant.0 ∙ ap (λ z. map literal_piece c.loop-first.text.items ++ z) (nil_from_length _ c.in_default.ensures.cases) ∙ append-nil _ in
    subst (λ ps. spells ps c.loop-first.text.items ≡ true) (sym all) (spells_text _ c.loop-first.text.items c.loop-first.invariant.1)

pub loop-first-preserved : goal.loop-first-preserved
loop-first-preserved g c =
    let items = c.in_ok-push-in-Literal.ensures.items in
    let first = c.in-Some.ensures.cases.0 ∙ ap (λ t. t ∷ c.in-Some.rest.now) (c.in-One.is ∙ ap One c.in-Literal.is) in (
      more_text c.args.pieces.now c.in-Some.rest.now _ c.loop-first.text.items _ c.in-Literal.letter c.in-Literal.letter c.loop-first.invariant.0 first refl items,
      subst (AllByRecursion (λ b. b < 0x80)) (sym items) (all_more (λ b. b < 0x80) _ _ c.loop-first.invariant.1 c.if-letter-ge128.false),
    )
