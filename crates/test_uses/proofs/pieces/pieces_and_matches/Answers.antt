use Rattle.std.proofs.Common.{[], refl}
use Rattle.test_uses.proofs.PieceCount.{one_more}
use Rattle.test_uses.proofs.pieces.pieces_and_matches.Goals as goal

pub returns : goal.returns
returns g c = one_more _ c.requires _ [] _ _ refl c.split.ensures.bytes
