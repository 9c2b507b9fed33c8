use Rattle.std.proofs.Common.{◌∙◌, arith}
use Rattle.test_uses.proofs.Indices.{occurs_within, cut_out_there}
use Rattle.test_uses.proofs.texts.cut_out.Goals as goal

pub index-requires : goal.index-requires
index-requires g c =
    let edges = c.boundaries.ensures.edges c.args.text.now _ c.args.at c.utf8.text c.requires.some c.requires.occurs in
    record { ordered = omega arith; within = occurs_within _ _ _ c.requires.occurs; start = edges.0; end = edges.1 }

pub returns : goal.returns
returns g c = c.index.ensures.bytes ∙ cut_out_there _ _ _ c.requires.occurs
