use Rattle.osbytes_c.proofs.walks.symbols_fill.write_symbol.Goals as goal

pub view_of-requires-clause-some : goal.view_of-requires-clause-some
view_of-requires-clause-some c = (c.in-Some.ensures c.args.platform).some
