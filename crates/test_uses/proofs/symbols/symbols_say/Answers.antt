use Rattle.test_uses.proofs.symbols.symbols_say.Goals as goal

pub returns : goal.returns
returns g c = c.symbols.ensures.once _ _ _ c.symbols-2.ensures.symbols c.requires
