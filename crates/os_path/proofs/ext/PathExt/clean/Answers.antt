use Rattle.os_path.proofs.lemmas.NormalParts.{cleaned_formed}
use Rattle.std.proofs.Common.{sym, subst}
use Rattle.path_building.specs.Cleaned.{IsCleaned}
use Rattle.os_path.proofs.ext.PathExt.clean.Goals as goal

pub path_of-requires : goal.path_of-requires
path_of-requires g c =
    let P = g.Self.Platform.Platform in
    let met = g.met.Self.Platform.Platform in
    let laws = met.laws in
    cleaned_formed P.well_formed P.units met.occurrence laws.cut_prefix laws.cut_suffix c.style.result c.path_bytes.result.now c.in_ok-made.made.items c.in_ok-made.ensures c.path_bytes.ensures.formed

pub returns : goal.returns
returns g c =
    let F = g.Self.Platform.PathStyle.follows in
    let items = c.in_ok-made.made.items in
    subst (IsCleaned F (g.Self.PathExt.bytes_of c.args.self)) (sym c.path_of.ensures)
    (subst (λ s. IsCleaned F s items) c.path_bytes.ensures.value (subst (λ w. IsCleaned w c.path_bytes.result.now items) c.style.ensures c.in_ok-made.ensures))
