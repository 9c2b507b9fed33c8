use Rattle.path_rules.specs.PrefixViews.{kind_of}
use Rattle.os_path.proofs.lemmas.PrefixParts.{kind_formed}
use Rattle.os_path.proofs.prefixes.windows_prefix.Goals as goal

pub strings_of-requires : goal.strings_of-requires
strings_of-requires g c =
    let laws = g.met.E.Platform.laws in
    kind_formed g.E.Platform.well_formed laws.cut_prefix laws.cut_suffix c.as_encoded_bytes.result.now (kind_of c.in-Some.prefix) c.in-Some.field-0-1.now c.in-Some.ensures c.as_encoded_bytes.ensures.formed
