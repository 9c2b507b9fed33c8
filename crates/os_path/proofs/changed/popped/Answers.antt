use Rattle.std.proofs.Common.{sym, subst}
use Rattle.path_rules.specs.Parent.{IsParent}
use Rattle.os_path.proofs.lemmas.Cuts.{cuts}
use Rattle.os_path.proofs.lemmas.Joined.{parent_formed}
use Rattle.os_path.proofs.changed.popped.Goals as goal

pub path_of-requires-2 : goal.path_of-requires-2
path_of-requires-2 g c =
    let laws = g.met.E.Platform.laws in
    let formed = g.E.Platform.well_formed in
    let w = c.style.result in
    let path = c.into_encoded_bytes-vec.result.items in
    let parent = c.in-Some.parent.now in
    subst formed (sym c.truncate.ensures.items)
    (parent_formed formed g.E.Platform.units g.met.E.Platform.occurrence (cuts formed laws.cut_prefix laws.cut_suffix) laws.cut_prefix laws.cut_suffix w path parent (subst (λ x. IsParent w x parent) c.as_slice.ensures.value c.in-Some.ensures) c.into_encoded_bytes-vec.ensures.formed)
