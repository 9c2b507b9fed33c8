use Rattle.test_uses.proofs.bytes.units_once.Goals as goal

pub returns : goal.returns
returns c = c.encoding.ensures.one_list_of_units _ _ _ c.requires.first c.requires.second
