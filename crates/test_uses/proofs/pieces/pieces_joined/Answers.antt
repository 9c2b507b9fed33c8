use Rattle.test_uses.proofs.PiecesJoined as lemma
use Rattle.test_uses.proofs.pieces.pieces_joined.Goals as goal

pub returns-clause-bytes : goal.returns-clause-bytes
returns-clause-bytes g c = lemma.pieces_joined _ (λ _ _ _ cut. cut.joined) _ _ c.split.ensures.bytes

pub returns-clause-units : goal.returns-clause-units
returns-clause-units g c = lemma.pieces_joined _ (λ _ _ _ cut. cut.joined) _ _ c.split.ensures.units
