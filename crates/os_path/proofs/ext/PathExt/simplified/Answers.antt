use Rattle.os_path.proofs.lemmas.Simple.{simplified_formed}
use Rattle.os_path.proofs.ext.PathExt.simplified.Goals as goal

pub part-requires : goal.part-requires
part-requires g c =
    let laws = g.met.Self.Platform.Platform.laws in
    simplified_formed g.Self.Platform.Platform.well_formed laws.cut_prefix laws.cut_suffix c.style.result c.path_bytes.result.now c.simplified.result.now c.simplified.ensures c.path_bytes.ensures.formed
