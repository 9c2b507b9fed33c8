use Rattle.std.proofs.Common.{◌++◌, refl}
use Rattle.os_path.proofs.lemmas.Cuts.{before_formed, after_formed}
use Rattle.os_path.proofs.ext.PathExt.strip_prefix.Goals as goal

pub part-requires : goal.part-requires
part-requires g c =
    let laws = g.met.Self.Platform.Platform.laws in
    let formed = g.Self.Platform.Platform.well_formed in
    let s = c.in-Some.ensures.1 in
    let t = s.trimmed in
    let rest = c.in-Some.rest.now in
    let whole = s.before ++ rest in
    after_formed formed laws.cut_prefix laws.cut_suffix whole s.before rest refl s.cut
    (before_formed formed laws.cut_prefix laws.cut_suffix c.path_bytes.result.now whole t.after t.joined t.cut c.path_bytes.ensures.formed)
