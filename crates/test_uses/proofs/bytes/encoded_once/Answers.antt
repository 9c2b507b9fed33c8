use Rattle.test_uses.proofs.bytes.encoded_once.Goals as goal

pub returns : goal.returns
returns c = c.encoded_once.ensures _ _ _ c.requires.first c.requires.second
