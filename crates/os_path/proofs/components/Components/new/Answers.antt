use Rattle.std.proofs.Common.{sym, subst}
use Rattle.os_path.proofs.lemmas.Cuts.{cuts}
use Rattle.os_path.proofs.lemmas.Whole.{all_formed}
use Rattle.os_path.proofs.components.Components.new.Goals as goal

pub invariant_of-result : goal.invariant_of-result
invariant_of-result g c =
    let laws = g.met.E.Platform.laws in
    let formed = g.E.Platform.well_formed in
    record {
      path = subst formed (sym c.new.ensures.path) c.as_encoded_bytes.ensures.formed;
      items = all_formed formed (cuts formed laws.cut_prefix laws.cut_suffix) c.style.result c.as_encoded_bytes.result.now c.new.result.items c.new.ensures.items c.as_encoded_bytes.ensures.formed;
    }
