use Rattle.test_uses.proofs.OnePiece.{one_piece}
use Rattle.test_uses.proofs.pieces.uncut_from_the_end.Goals as goal

pub returns : goal.returns
returns g c = one_piece _ _ (λ piece rest cut. c.requires.nowhere _ cut.found.occurs) c.rsplit.ensures.bytes
