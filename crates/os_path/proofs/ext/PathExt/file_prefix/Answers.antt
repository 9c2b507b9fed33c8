use Rattle.os_path.proofs.lemmas.Cuts.{cuts}
use Rattle.os_path.proofs.lemmas.Names.{prefix_formed}
use Rattle.os_path.proofs.ext.PathExt.file_prefix.Goals as goal

pub from_encoded_bytes_unchecked-requires : goal.from_encoded_bytes_unchecked-requires
from_encoded_bytes_unchecked-requires g c =
    let laws = g.met.Self.Platform.Platform.laws in
    let formed = g.Self.Platform.Platform.well_formed in
    prefix_formed formed (cuts formed laws.cut_prefix laws.cut_suffix) c.as_encoded_bytes.result.now c.name_prefix-prefix.result.now c.name_prefix-prefix.ensures c.as_encoded_bytes.ensures.formed
