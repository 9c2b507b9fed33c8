use Rattle.test_uses.proofs.occurrence.unit_index.Goals as goal

pub returns : goal.returns
returns g c = (c.occurrence.ensures.alike _ _ _ c.utf8.text c.requires.some c.args.string.ok).0 c.requires.occurs
