use Rattle.path_building.specs.Join.{IsJoin}
use Rattle.os_path.proofs.lemmas.Cuts.{cuts}
use Rattle.os_path.proofs.lemmas.Joined.{join_formed, on_either}
use Rattle.os_path.proofs.changed.pushed.Goals as goal

pub path_of-requires : goal.path_of-requires
path_of-requires g c =
    let laws = g.met.E.Platform.laws in
    let formed = g.E.Platform.well_formed in
    let cut = cuts formed laws.cut_prefix laws.cut_suffix in
    let w = c.style.result in
    let old = c.into_encoded_bytes-vec.result.items in
    let more = c.as_encoded_bytes.result.now in
    let new = c.push-outcome.new.base.items in
    on_either formed (λ _. IsJoin w old more new) old new c.push-outcome.result
    (λ _ h. join_formed formed g.E.Platform.units g.met.E.Platform.occurrence cut w old more new h c.into_encoded_bytes-vec.ensures.formed c.as_encoded_bytes.ensures.formed) c.push-outcome.ensures.ok c.push-outcome.ensures.err c.into_encoded_bytes-vec.ensures.formed
