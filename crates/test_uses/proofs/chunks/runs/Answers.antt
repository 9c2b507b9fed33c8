use Rattle.test_uses.proofs.chunks.runs.Goals as goal

pub returns : goal.returns
returns c = c.chunks.ensures.runs _ _ _ c.requires c.utf8_chunks.ensures.chunks
