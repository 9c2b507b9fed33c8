use Rattle.std.proofs.Common.{ap, map, subst}
use Rattle.std.proofs.lemmas.List.{nil_from_length}
use Rattle.glob_text.specs.Marks.{mark_of}
use Rattle.glob_text.proofs.lemmas.Pieces.{PiecesSoFar, all_pieces, one_more_piece}
use Rattle.glob_text.proofs.part.pieces_of.Goals as goal

pub loop-mark-preserved : goal.loop-mark-preserved
loop-mark-preserved g c =
    one_more_piece (map mark_of c.args.marks.now) _ (mark_of c.in-Some.mark.now) _ c.in_ok-piece.piece _
    (subst (λ z. PiecesSoFar (map mark_of c.args.marks.now) c.loop-mark.pieces.items z) (ap (map mark_of) c.in-Some.ensures.cases.0) c.loop-mark.invariant)
    c.in_ok-piece.ensures c.in_ok-push.ensures.items

pub returns : goal.returns
returns g c = all_pieces (map mark_of c.args.marks.now) _ _ c.loop-mark.invariant (ap (map mark_of) (nil_from_length _ c.in_default.ensures.cases))
