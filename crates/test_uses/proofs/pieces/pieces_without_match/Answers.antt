use Rattle.test_uses.proofs.NoMatch.{in_no_piece}
use Rattle.test_uses.proofs.pieces.pieces_without_match.Goals as goal

pub returns : goal.returns
returns g c = in_no_piece _ c.requires _ _ c.split.ensures.bytes
