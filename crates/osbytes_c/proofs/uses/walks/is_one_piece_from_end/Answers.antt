use Rattle.osbytes_c.proofs.lemmas.Walks.{one_last_piece}
use Rattle.osbytes_c.proofs.uses.walks.is_one_piece_from_end.Goals as goal

pub returns-then-osb_core_rcut-eq-DONE : goal.returns-then-osb_core_rcut-eq-DONE
returns-then-osb_core_rcut-eq-DONE c = λ last.
    let p = c.args.pattern.now in
    let s = c.args.bytes.now in
    let step = c.osb_core_rcut.ensures.piece c.if-osb_core_rcut-eq-DONE.true in
    c.split_walks.ensures.rsplit p s _ (one_last_piece p s _ _ _ step last)
