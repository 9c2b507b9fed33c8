use Rattle.osbytes_c.proofs.lemmas.ChunkFills.{chunks_filled, chunks_left}
use Rattle.osbytes_c.proofs.walks.fill_laws.filled_chunks.Goals as goal

pub returns : goal.returns
returns c = λ s address at items ended rest left g are. chunks_filled s address at items rest g.0 left (chunks_left s ended rest left g.1 are)
