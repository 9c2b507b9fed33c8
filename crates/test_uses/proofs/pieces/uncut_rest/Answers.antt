use Rattle.platform_str.specs.Strings.{bytes}
use Rattle.os_str_ext.specs.Cuts.{FirstCut}
use Rattle.test_uses.proofs.OnePiece.{rest_of_one}
use Rattle.test_uses.proofs.pieces.uncut_rest.Goals as goal

pub returns : goal.returns
returns g c = rest_of_one FirstCut bytes _ _ _ c.uncut.ensures c.rest.ensures
