use Rattle.platform_str.specs.Strings.{bytes}
use Rattle.os_str_ext.specs.Cuts.{LastCut}
use Rattle.test_uses.proofs.OnePiece.{rest_of_one}
use Rattle.test_uses.proofs.pieces.uncut_rest_from_the_end.Goals as goal

pub returns : goal.returns
returns g c = rest_of_one LastCut bytes _ _ _ c.uncut_from_the_end.ensures c.rest.ensures
