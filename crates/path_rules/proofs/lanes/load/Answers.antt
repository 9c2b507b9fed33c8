use Rattle.std.proofs.lemmas.Simd.{get_or-chunk}
use Rattle.path_rules.proofs.lanes.load.Goals as goal

pub returns : goal.returns
returns g c i h = get_or-chunk c.args.from g.row.N c.args.bytes.now i 0 h
