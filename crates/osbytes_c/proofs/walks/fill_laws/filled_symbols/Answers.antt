use Rattle.osbytes_c.proofs.lemmas.SymbolFills.{symbols_filled, symbols_left}
use Rattle.osbytes_c.proofs.walks.fill_laws.filled_symbols.Goals as goal

pub returns : goal.returns
returns c = λ platform s address at items ended rest g w left are. symbols_filled platform s address at items rest g.0 w left (symbols_left platform s ended rest left g.1 are)
