use Rattle.std.proofs.lemmas.Simd.{length-chunk}
use Rattle.os_str_ext.proofs.lemmas.Comparing.{same_lanes}
use Rattle.os_str_ext.proofs.compare.are_same_at.Goals as goal

pub returns : goal.returns
returns g c =
    let a = length-chunk c.args.at g.row.N c.args.a.now c.requires.a in
    let b = length-chunk c.args.at g.row.N c.args.b.now c.requires.b in
    same_lanes _ _ g.row.N a b c.requires.few
