use Rattle.os_path.proofs.lemmas.Cuts.{cuts}
use Rattle.os_path.proofs.lemmas.Joined.{set_formed}
use Rattle.os_path.proofs.ext.PathExt.with_extension.Goals as goal

pub path_of-requires : goal.path_of-requires
path_of-requires g c =
    let P = g.Self.Platform.Platform in
    let met = g.met.Self.Platform.Platform in
    let laws = met.laws in
    let cut = cuts P.well_formed laws.cut_prefix laws.cut_suffix in
    set_formed P.well_formed P.units met.occurrence cut laws.cut_prefix laws.cut_suffix c.style.result c.path_bytes.result.now c.as_encoded_bytes.result.now c.in_ok-made.made.items c.in_ok-made.ensures.0 c.in_ok-made.ensures.1 c.path_bytes.ensures.formed c.as_encoded_bytes.ensures.formed
