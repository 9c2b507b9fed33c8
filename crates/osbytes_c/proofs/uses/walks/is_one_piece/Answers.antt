use Rattle.osbytes_c.proofs.lemmas.Walks.{one_piece}
use Rattle.osbytes_c.proofs.uses.walks.is_one_piece.Goals as goal

pub returns-then-osb_core_cut-eq-DONE : goal.returns-then-osb_core_cut-eq-DONE
returns-then-osb_core_cut-eq-DONE c = λ last.
    let p = c.args.pattern.now in
    let s = c.args.bytes.now in
    let step = c.osb_core_cut.ensures.piece c.if-osb_core_cut-eq-DONE.true in
    c.split_walks.ensures.split p s _ (one_piece p s _ _ _ step last)
