use Rattle.os_str_ext.proofs.lemmas.SymbolBytes.{some_symbols, symbols_once, symbols_joined}
use Rattle.os_str_ext.proofs.symbol_laws.symbols.Goals as goal

pub returns-clause-some : goal.returns-clause-some
returns-clause-some g c = some_symbols g.E.Platform.units

pub returns-clause-once : goal.returns-clause-once
returns-clause-once g c = symbols_once g.E.Platform.units

pub returns-clause-joined : goal.returns-clause-joined
returns-clause-joined g c =
    let laws = g.met.E.Platform.laws in
    symbols_joined g.E.Platform.units g.E.Platform.well_formed g.met.E.Platform.parts.encoded laws.cut_prefix laws.cut_suffix
