use Rattle.std.proofs.Common.{◌≡◌, ◌∙◌, subst, None}
use Rattle.platform_str.specs.Strings.{path_bytes}
use Rattle.std.specs.Option.{option_map}
use Rattle.path_building.specs.Relative.{IsRelativeFrom}
use Rattle.os_path.proofs.lemmas.RelativeParts.{relative_formed}
use Rattle.os_path.proofs.ext.PathExt.relative_from.Goals as goal

pub path_of-requires : goal.path_of-requires
path_of-requires g c =
    let P = g.Self.Platform.Platform in
    let met = g.met.Self.Platform.Platform in
    let laws = met.laws in
    let w = c.style.result in
    let path = c.path_bytes.result.now in
    let base = c.as_encoded_bytes.result.now in
    let way = subst (λ z. IsRelativeFrom w path base (option_map (λ v. v.items) z)) c.in-Some.is c.in_ok-way.ensures in
    relative_formed P.well_formed P.units met.occurrence laws.cut_prefix laws.cut_suffix w path base c.in-Some.way.items way.0 c.path_bytes.ensures.formed

pub returns-in-None : goal.returns-in-None
returns-in-None g c =
    let w = g.Self.Platform.PathStyle.follows in
    let path = c.path_bytes.result.now in
    let base = c.as_encoded_bytes.result.now in
    let other : base ≡ path_bytes c.args.base = c.as_encoded_bytes.ensures.value ∙ c.as_os_str.ensures in
    let none = subst (λ z. IsRelativeFrom c.style.result path base (option_map (λ v. v.items) z)) c.in-None.is c.in_ok-way.ensures in
    subst (λ x. IsRelativeFrom w (g.Self.PathExt.bytes_of c.args.self) x None) other
    (subst (λ x. IsRelativeFrom w x base None) c.path_bytes.ensures.value (subst (λ z. IsRelativeFrom z path base None) c.style.ensures none))
