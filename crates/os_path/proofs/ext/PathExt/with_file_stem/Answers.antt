use Rattle.os_path.proofs.lemmas.StemParts.{stem_set_formed, stem_set_same}
use Rattle.std.proofs.Common.{sym}
use Rattle.platform_str.specs.Strings.{bytes, path_vec_of}
use Rattle.os_path.proofs.ext.PathExt.with_file_stem.Goals as goal

pub path_of-requires : goal.path_of-requires
path_of-requires g c =
    let P = g.Self.Platform.Platform in
    let met = g.met.Self.Platform.Platform in
    let laws = met.laws in
    stem_set_formed P.well_formed P.units met.occurrence laws.cut_prefix laws.cut_suffix c.style.result c.path_bytes.result.now c.as_encoded_bytes.result.now c.in_ok-made.made.items c.in_ok-made.ensures c.path_bytes.ensures.formed c.as_encoded_bytes.ensures.formed

pub returns : goal.returns
returns g c =
    stem_set_same c.style.result g.Self.Platform.PathStyle.follows c.path_bytes.result.now (g.Self.PathExt.bytes_of c.args.self) c.as_encoded_bytes.result.now (bytes c.args.stem) c.in_ok-made.made.items (path_vec_of c.path_of.result).items c.style.ensures
    c.path_bytes.ensures.value c.as_encoded_bytes.ensures.value (sym c.path_of.ensures) c.in_ok-made.ensures
