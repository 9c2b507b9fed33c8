use Rattle.std.proofs.Common.{Bool}
use Rattle.path_building.specs.FileName.{IsExtensionAdded}
use Rattle.os_path.proofs.lemmas.Cuts.{cuts}
use Rattle.os_path.proofs.lemmas.Joined.{added_formed, on_either}
use Rattle.os_path.proofs.changed.with_extension_added.Goals as goal

pub path_of-requires : goal.path_of-requires
path_of-requires g c =
    let laws = g.met.E.Platform.laws in
    let formed = g.E.Platform.well_formed in
    let cut = cuts formed laws.cut_prefix laws.cut_suffix in
    let w = c.style.result in
    let old = c.into_encoded_bytes-vec.result.items in
    let extension = c.as_encoded_bytes.result.now in
    let new = c.add_extension-outcome.new.path.items in
    on_either formed (λ (b : Bool). IsExtensionAdded w old extension new b) old new c.add_extension-outcome.result
    (λ b h. added_formed formed g.E.Platform.units g.met.E.Platform.occurrence cut laws.cut_prefix laws.cut_suffix w old extension new b h c.into_encoded_bytes-vec.ensures.formed c.as_encoded_bytes.ensures.formed) c.add_extension-outcome.ensures.ok c.add_extension-outcome.ensures.err c.into_encoded_bytes-vec.ensures.formed
