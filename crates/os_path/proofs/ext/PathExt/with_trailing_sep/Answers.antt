use Rattle.std.proofs.Common.{[]}
use Rattle.path_building.proofs.lemmas.Trailing.{to_join}
use Rattle.os_path.proofs.lemmas.Cuts.{cuts}
use Rattle.os_path.proofs.lemmas.Joined.{join_formed, nothing_formed}
use Rattle.os_path.proofs.ext.PathExt.with_trailing_sep.Goals as goal

pub path_of-requires : goal.path_of-requires
path_of-requires g c =
    let P = g.Self.Platform.Platform in
    let met = g.met.Self.Platform.Platform in
    let laws = met.laws in
    let w = c.style.result in
    let path = c.path_bytes.result.now in
    let ended = c.in_ok-made.made.items in
    join_formed P.well_formed P.units met.occurrence (cuts P.well_formed laws.cut_prefix laws.cut_suffix) w path [] ended (to_join w path ended c.in_ok-made.ensures) c.path_bytes.ensures.formed (nothing_formed P.well_formed P.units met.occurrence)
