use Rattle.std.proofs.Common.{◌∷◌, ◌∙◌, sym, ap, subst}
use Rattle.std.proofs.lemmas.List.{nil_from_length}
use Rattle.wildcards.specs.declared.piece.Piece.TheVariants.{Many, One}
use Rattle.wildcards.specs.Small.{IsSmallPart}
use Rattle.wildcards.proofs.lemmas.Small.{one_paired, all_paired}
use Rattle.wildcards.proofs.small.small_parts.Goals as goal

pub loop-piece-preserved : goal.loop-piece-preserved
loop-piece-preserved g c =
    one_paired IsSmallPart c.args.parts.now c.loop-piece.left.now c.in-Some.rest.now c.loop-piece.small.items c.push-in-One.new.self.items (One c.in-One.part) (One c.in_ok-small_part-in-One.field-0)
    (c.in-Some.ensures.cases.0 ∙ ap (λ z. z ∷ c.in-Some.rest.now) c.in-One.is) c.in_ok-push-in-One.ensures.items c.in_ok-small_part-in-One.ensures c.loop-piece.invariant

pub returns : goal.returns
returns g c = all_paired IsSmallPart c.args.parts.now c.loop-piece.left.now c.loop-piece.small.items (nil_from_length _ c.in_default.ensures.cases) c.loop-piece.invariant
