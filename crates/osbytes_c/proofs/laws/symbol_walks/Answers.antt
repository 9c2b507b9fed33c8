use Rattle.osbytes_c.proofs.lemmas.Walks.{symbol_walk}
use Rattle.osbytes_c.proofs.laws.symbol_walks.Goals as goal

pub returns : goal.returns
returns c = λ platform s symbols w. symbol_walk platform s 0 symbols w
