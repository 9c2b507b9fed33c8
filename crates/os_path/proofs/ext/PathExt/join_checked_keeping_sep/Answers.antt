use Rattle.std.proofs.Common.{◌≡◌, ◌∙◌, subst}
use Rattle.platform_str.specs.Strings.{path_bytes}
use Rattle.path_building.specs.Faults.{IsJoinFault}
use Rattle.os_path.proofs.lemmas.EndedParts.{ended_formed}
use Rattle.os_path.proofs.ext.PathExt.join_checked_keeping_sep.Goals as goal

pub path_of-requires : goal.path_of-requires
path_of-requires g c =
    let P = g.Self.Platform.Platform in
    let met = g.met.Self.Platform.Platform in
    let laws = met.laws in
    ended_formed P.well_formed P.units met.occurrence laws.cut_prefix laws.cut_suffix c.style.result c.path_bytes.result.now c.as_encoded_bytes.result.now c.in-Ok.made.items c.in-Ok.ensures.ok c.path_bytes.ensures.formed c.as_encoded_bytes.ensures.formed

pub returns-in-Err-clause-err : goal.returns-in-Err-clause-err
returns-in-Err-clause-err g c =
    let error = c.in-Err.error in
    let w = g.Self.Platform.PathStyle.follows in
    let other : c.as_encoded_bytes.result.now ≡ path_bytes c.args.path = c.as_encoded_bytes.ensures.value ∙ c.as_os_str.ensures in
    let style = subst (λ z. IsJoinFault z c.path_bytes.result.now c.as_encoded_bytes.result.now error) c.style.ensures c.in-Err.ensures.err in
    let first = subst (λ s. IsJoinFault w s c.as_encoded_bytes.result.now error) c.path_bytes.ensures.value style in
    subst (λ s. IsJoinFault w (g.Self.PathExt.bytes_of c.args.self) s error) other first
