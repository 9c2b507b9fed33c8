use Rattle.test_uses.proofs.NoMatch.{in_no_piece_from_the_end}
use Rattle.test_uses.proofs.pieces.pieces_without_match_from_the_end.Goals as goal

pub returns : goal.returns
returns g c = in_no_piece_from_the_end _ c.requires _ _ c.rsplit.ensures.bytes
