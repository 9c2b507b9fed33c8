use Rattle.std.proofs.Common.{arith}
use Rattle.std.proofs.lemmas.Result.{IfOk-weaker}
use Rattle.glob_text.proofs.lemmas.Pieces.{clone_at, none_at}
use Rattle.glob_text.proofs.part.piece_at.Goals as goal

pub returns-then-index-pieces : goal.returns-then-index-pieces
returns-then-index-pieces g c =
    IfOk-weaker c.clone_piece.result _ _ (λ q k. clone_at c.args.pieces.now c.args.index _ q c.if-index-pieces.true c.index-pieces-index.is k) c.clone_piece.ensures

pub returns : goal.returns
returns g c = none_at c.args.pieces.now c.args.index (let h = c.if-index-pieces.false in omega (arith, h))
