use Rattle.os_str_ext.proofs.{Common.subst, Common.bytes, Common.AreOfRest, lemmas.Splits.pieces_of_rest}
use Rattle.os_str_ext.proofs.iter.Pieces.rest.Goals as goal

pub returns : goal.returns
returns g c =
    let p = g.P.__Encoded.Encoded.text c.self.inside.pattern in
    subst (AreOfRest g.D.Direction.cuts bytes c.self.inside.rest) c.self.view_is (pieces_of_rest g.D.Direction.cuts g.D.Direction.pieces p c.self.invariant bytes c.self.inside.rest)
