use Rattle.os_path.proofs.lemmas.NormalParts.{normalized_formed}
use Rattle.std.proofs.Common.{sym, subst}
use Rattle.path_building.specs.Normalized.{IsNormalized}
use Rattle.os_path.proofs.ext.PathExt.normalize.Goals as goal

pub path_of-requires : goal.path_of-requires
path_of-requires g c =
    let P = g.Self.Platform.Platform in
    let met = g.met.Self.Platform.Platform in
    let laws = met.laws in
    normalized_formed P.well_formed P.units met.occurrence laws.cut_prefix laws.cut_suffix c.style.result c.path_bytes.result.now c.in_ok-made.made.items c.in_ok-made.ensures.ok c.path_bytes.ensures.formed

pub returns-clause-ok : goal.returns-clause-ok
returns-clause-ok g c =
    let F = g.Self.Platform.PathStyle.follows in
    let items = c.in_ok-made.made.items in
    subst (IsNormalized F (g.Self.PathExt.bytes_of c.args.self)) (sym c.path_of.ensures)
    (subst (λ s. IsNormalized F s items) c.path_bytes.ensures.value (subst (λ w. IsNormalized w c.path_bytes.result.now items) c.style.ensures c.in_ok-made.ensures.ok))
