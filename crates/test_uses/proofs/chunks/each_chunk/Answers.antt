use Rattle.test_uses.proofs.chunks.each_chunk.Goals as goal

pub returns : goal.returns
returns g c = c.each_chunk.ensures _ c.args.string.ok _ c.utf8_chunks.ensures.chunks
