use Rattle.os_str_ext.proofs.Common.{subst, sym, IsUtf8, bytes, ArePieces}
use Rattle.os_str_ext.proofs.iter.Pieces.new.Goals as goal

pub returns-clause-pieces : goal.returns-clause-pieces
returns-clause-pieces g c =
    let s = bytes c.args.string in
    let p = g.P.Pattern.text c.args.pattern in
    subst (λ q. ArePieces g.D.Direction.cuts p s (g.D.Direction.pieces q s).0) (sym c.encode.ensures.value) ((g.D.Direction.pieces p s).1 c.requires)

pub returns-clause-utf8 : goal.returns-clause-utf8
returns-clause-utf8 g c = subst (λ p. IsUtf8 p) c.encode.ensures.value c.encode.ensures.utf8
