use Rattle.osbytes_c.proofs.lemmas.Walks.{chunk_walk}
use Rattle.osbytes_c.proofs.laws.chunk_walks.Goals as goal

pub returns : goal.returns
returns c = λ s chunks w. chunk_walk s 0 chunks w
