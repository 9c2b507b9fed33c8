use Rattle.test_uses.proofs.PiecesJoined as lemma
use Rattle.test_uses.proofs.pieces.pieces_joined_from_the_end.Goals as goal

pub returns-clause-bytes : goal.returns-clause-bytes
returns-clause-bytes g c = lemma.pieces_joined_from_the_end _ (λ _ _ _ cut. cut.joined) _ _ c.rsplit.ensures.bytes

pub returns-clause-units : goal.returns-clause-units
returns-clause-units g c = lemma.pieces_joined_from_the_end _ (λ _ _ _ cut. cut.joined) _ _ c.rsplit.ensures.units
