use Rattle.std.proofs.Common.{ap, sym, subst}
use Rattle.std.proofs.lemmas.List.{nil_from_length}
use Rattle.wildcards.specs.Small.{ArePaired, IsSmallItem}
use Rattle.wildcards.proofs.lemmas.Small.{ok_weaker, all_paired}
use Rattle.wildcards.proofs.small.small_part.Goals as goal

pub returns : goal.returns
returns g c =
    let own = c.args.part.now.pieces.items in
    ok_weaker _ _ c.new.result
    (λ small e. subst (ArePaired IsSmallItem own) (sym (ap (λ v. v.items) e)) (all_paired IsSmallItem own c.loop-piece.left.now c.loop-piece.small.items (nil_from_length _ c.in_default.ensures.cases) c.loop-piece.invariant))
    c.new.ensures
