use Rattle.test_uses.proofs.searches.before_first.Goals as goal

pub returns : goal.returns
returns g c = c.around_index.ensures.before_first _ _ _ _ c.requires c.in_ok-before.ensures.bytes
