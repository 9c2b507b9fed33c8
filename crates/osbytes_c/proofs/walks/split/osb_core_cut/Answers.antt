use Rattle.std.proofs.Common.{subst}
use Rattle.osbytes_c.specs.Steps.{IsFirstPiece}
use Rattle.osbytes_c.proofs.walks.split.osb_core_cut.Goals as goal

pub returns-clause-piece : goal.returns-clause-piece
returns-clause-piece c = λ is. subst (λ p. IsFirstPiece p c.args.bytes.now c.args.at c.first_piece.result) c.in-Some.ensures.text.0 c.first_piece.ensures
