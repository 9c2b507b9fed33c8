use Rattle.std.proofs.Common.{◌++◌, refl}
use Rattle.os_path.proofs.lemmas.Cuts.{before_formed, after_formed}
use Rattle.os_path.proofs.components.Components.as_path.Goals as goal

pub from_encoded_bytes_unchecked-requires : goal.from_encoded_bytes_unchecked-requires
from_encoded_bytes_unchecked-requires g c =
    let laws = g.met.E.Platform.laws in
    let formed = g.E.Platform.well_formed in
    let at = c.as_path.ensures in
    let part = c.as_path.result.now in
    after_formed formed laws.cut_prefix laws.cut_suffix (at.before ++ part) at.before part refl at.begins
    (before_formed formed laws.cut_prefix laws.cut_suffix c.self.inside.left.path (at.before ++ part) at.after at.joined at.ends c.self.invariant.path)
