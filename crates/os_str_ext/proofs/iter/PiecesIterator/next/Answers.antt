use Rattle.os_str_ext.proofs.Common.{ap, sym, ◌∙◌, option_map, bytes, pieces_left}
use Rattle.os_str_ext.proofs.lemmas.Splits.{pieces_whole, pieces_cut, first_piece_goes}
use Rattle.os_str_ext.proofs.iter.PiecesIterator.next.Goals as goal

pub returns-in-None-clause-steps : goal.returns-in-None-clause-steps
returns-in-None-clause-steps g c =
    let p = g.P.__Encoded.Encoded.text c.self.inside.pattern in
    let whole = rw c.as_str.ensures at c.in-None.ensures in
    sym c.self.view_is ∙ ap (λ o. pieces_left g.D.Direction.pieces p (option_map bytes o)) c.in_ok-string.was ∙ pieces_whole g.D.Direction.cuts g.met.D.Direction.laws p g.D.Direction.pieces c.self.invariant _ whole

pub returns-in-None-clause-goes : goal.returns-in-None-clause-goes
returns-in-None-clause-goes g c = first_piece_goes _ (λ _. tt) _ _ _ _ (returns-in-None-clause-steps g c)

pub returns-in-Some-clause-steps : goal.returns-in-Some-clause-steps
returns-in-Some-clause-steps g c =
    let p = g.P.__Encoded.Encoded.text c.self.inside.pattern in
    let cut = rw c.as_str.ensures at c.in-Some.ensures in
    sym c.self.view_is ∙ ap (λ o. pieces_left g.D.Direction.pieces p (option_map bytes o)) c.in_ok-string.was ∙ pieces_cut g.D.Direction.cuts g.met.D.Direction.laws p g.D.Direction.pieces c.self.invariant _ _ _ cut

pub returns-in-Some-clause-goes : goal.returns-in-Some-clause-goes
returns-in-Some-clause-goes g c = first_piece_goes _ (λ _. tt) _ _ _ _ (returns-in-Some-clause-steps g c)
