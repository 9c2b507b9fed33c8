use Rattle.std.proofs.Common.{subst}
use Rattle.osbytes_c.specs.Steps.{IsLastPiece}
use Rattle.osbytes_c.proofs.walks.split.osb_core_rcut.Goals as goal

pub returns-clause-piece : goal.returns-clause-piece
returns-clause-piece c = λ is. subst (λ p. IsLastPiece p c.args.bytes.now c.args.at c.last_piece.result) c.in-Some.ensures.text.0 c.last_piece.ensures
