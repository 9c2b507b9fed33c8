use Rattle.test_uses.proofs.symbols.symbols_joined.Goals as goal

pub returns : goal.returns
returns g c = c.symbols.ensures.joined _ c.args.string.ok _ c.symbols-2.ensures.symbols
