use Rattle.test_uses.proofs.chunks.rejoined_in_units.Goals as goal

pub returns : goal.returns
returns g c = c.chunk_units.ensures _ c.args.string.ok _ c.utf8_chunks.ensures.chunks
