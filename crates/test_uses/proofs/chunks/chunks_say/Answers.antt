use Rattle.test_uses.proofs.chunks.chunks_say.Goals as goal

pub returns : goal.returns
returns g c = c.chunks.ensures.once _ _ _ c.utf8_chunks.ensures.chunks c.requires
