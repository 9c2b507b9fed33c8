use Rattle.os_path.proofs.lemmas.Cuts.{cuts}
use Rattle.os_path.proofs.lemmas.Names.{extension_formed}
use Rattle.os_path.proofs.ext.extension_of.Goals as goal

pub from_encoded_bytes_unchecked-requires : goal.from_encoded_bytes_unchecked-requires
from_encoded_bytes_unchecked-requires g c =
    let laws = g.met.E.Platform.laws in
    let formed = g.E.Platform.well_formed in
    extension_formed formed (cuts formed laws.cut_prefix laws.cut_suffix) c.as_encoded_bytes.result.now c.in-Some.ensures.0 c.in-Some.extension.now c.in-Some.ensures.1 c.as_encoded_bytes.ensures.formed
