use Rattle.path_rules.proofs.lemmas.Divides.{divided}
use Rattle.os_path.proofs.lemmas.Cuts.{cuts}
use Rattle.os_path.proofs.lemmas.Divided.{parts_of}
use Rattle.os_path.proofs.lemmas.Whole.{all_formed}
use Rattle.os_path.proofs.laws.component_units.Goals as goal

pub returns : goal.returns
returns g c = λ path items f a.
    let laws = g.met.E.Platform.laws in
    let formed = g.E.Platform.well_formed in
    let w = g.E.PathStyle.follows in
    parts_of formed g.E.Platform.units g.met.E.Platform.occurrence w path items (all_formed formed (cuts formed laws.cut_prefix laws.cut_suffix) w path items a f) f (divided w path items a)
