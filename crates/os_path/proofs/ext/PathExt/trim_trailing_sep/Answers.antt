use Rattle.os_path.proofs.lemmas.Cuts.{trimmed_formed}
use Rattle.os_path.proofs.ext.PathExt.trim_trailing_sep.Goals as goal

pub part-requires : goal.part-requires
part-requires g c =
    let laws = g.met.Self.Platform.Platform.laws in
    trimmed_formed g.Self.Platform.Platform.well_formed laws.cut_prefix laws.cut_suffix c.style.result c.path_bytes.result.now c.trim_trailing_sep.result.now c.trim_trailing_sep.ensures c.path_bytes.ensures.formed
