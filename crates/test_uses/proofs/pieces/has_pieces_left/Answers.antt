use Rattle.std.proofs.Common.{◌∙◌, sym}
use Rattle.os_str_ext.specs.Cuts.{FirstCut}
use Rattle.os_str_bytes.specs.Raw.{raw_bytes}
use Rattle.test_uses.proofs.OnePiece.{rest_of_some}
use Rattle.test_uses.proofs.pieces.has_pieces_left.Goals as goal

pub returns : goal.returns
returns g c =
    let left = rest_of_some FirstCut raw_bytes _ _ c.rest.ensures in
    (λ t. left.0 (sym c.is_some.ensures ∙ t), λ more. c.is_some.ensures ∙ left.1 more)
