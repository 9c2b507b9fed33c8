use Rattle.os_path.proofs.lemmas.Cuts.{before_formed}
use Rattle.os_path.proofs.ext.PathExt.parent.Goals as goal

pub part-requires : goal.part-requires
part-requires g c =
    let laws = g.met.Self.Platform.Platform.laws in
    let parent = c.in-Some.ensures in
    before_formed g.Self.Platform.Platform.well_formed laws.cut_prefix laws.cut_suffix c.path_bytes.result.now c.in-Some.parent.now parent.after parent.joined parent.cut c.path_bytes.ensures.formed
