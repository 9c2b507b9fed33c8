use Rattle.std.proofs.Common.{◌≡◌, sym, ap, ◌∙◌}
use Rattle.platform_str.specs.Strings.{bytes, path_vec_of}
use Rattle.path_building.specs.FileName.{IsNamed}
use Rattle.os_path.proofs.lemmas.Cuts.{cuts}
use Rattle.os_path.proofs.lemmas.Joined.{named_formed, on_either, named_same, on_ok}
use Rattle.os_path.proofs.changed.named.Goals as goal

pub path_of-requires : goal.path_of-requires
path_of-requires g c =
    let laws = g.met.E.Platform.laws in
    let formed = g.E.Platform.well_formed in
    let cut = cuts formed laws.cut_prefix laws.cut_suffix in
    let w = c.style.result in
    let old = c.into_encoded_bytes-vec.result.items in
    let more = c.as_encoded_bytes.result.now in
    let new = c.set_file_name-outcome.new.path.items in
    on_either formed (λ _. IsNamed w old more new) old new c.set_file_name-outcome.result
    (λ _ h. named_formed formed g.E.Platform.units g.met.E.Platform.occurrence cut laws.cut_prefix laws.cut_suffix w old more new h c.into_encoded_bytes-vec.ensures.formed c.as_encoded_bytes.ensures.formed) c.set_file_name-outcome.ensures.ok c.set_file_name-outcome.ensures.err c.into_encoded_bytes-vec.ensures.formed

pub returns-clause-ok : goal.returns-clause-ok
returns-clause-ok g c =
    let w = g.E.PathStyle.follows in
    let old = c.into_encoded_bytes-vec.result.items in
    let new = c.set_file_name-outcome.new.path.items in
    let was : old ≡ (path_vec_of c.args.path).items = ap (λ v. v.items) (c.into_encoded_bytes-vec.ensures.value ∙ c.into_os_string.ensures) in
    let made : new ≡ (path_vec_of c.path_of.result).items = sym c.path_of.ensures in
    on_ok (IsNamed c.style.result old c.as_encoded_bytes.result.now new) (IsNamed w (path_vec_of c.args.path).items (bytes c.args.name) (path_vec_of c.path_of.result).items)
    (named_same c.style.result w old (path_vec_of c.args.path).items c.as_encoded_bytes.result.now (bytes c.args.name) new (path_vec_of c.path_of.result).items c.style.ensures was c.as_encoded_bytes.ensures.value made)
    c.set_file_name-outcome.result c.set_file_name-outcome.ensures.ok
