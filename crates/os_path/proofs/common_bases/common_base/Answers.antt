use Rattle.os_path.proofs.lemmas.BaseParts.{front_formed}
use Rattle.os_path.proofs.common_bases.common_base.Goals as goal

pub part-requires : goal.part-requires
part-requires g c =
    let laws = g.met.E.Platform.laws in
    front_formed g.E.Platform.well_formed laws.cut_prefix laws.cut_suffix c.style.result c.path_bytes.result.now c.in-Ok.base.now c.in-Ok.ensures.ok.front c.path_bytes.ensures.formed
