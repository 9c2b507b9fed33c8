use Rattle.os_str_ext.proofs.lemmas.EachChunk.{each_chunk}
use Rattle.os_str_ext.proofs.chunk_laws.each_chunk.Goals as goal

pub returns : goal.returns
returns g c =
    let laws = g.met.E.Platform.laws in
    each_chunk g.E.Platform.well_formed laws.cut_prefix laws.cut_suffix
