use Rattle.std.proofs.Common.{sym, subst, refl, ◌∙◌}
use Rattle.wildcards.specs.declared.piece.Item.TheVariants.{OneOf}
use Rattle.wildcards.specs.declared.piece.Piece.TheVariants.{One}
use Rattle.os_ignore.specs.PatternText.{PieceAt}
use Rattle.os_ignore.proofs.pattern.read_piece.Goals as goal

pub returns-in-Some-clause-piece : goal.returns-in-Some-clause-piece
returns-in-Some-clause-piece g c =
    let class = rw c.in-Some.is at c.in_ok-class-in-Bracket.ensures.class in
    subst (λ kind. PieceAt c.args.folds kind c.args.first c.args.rest.now (One (OneOf c.in-Some.class)) c.in-Some.after.now) (sym c.in-Bracket.is ∙ c.kind.ensures) (c.in-Some.class, refl, class)
