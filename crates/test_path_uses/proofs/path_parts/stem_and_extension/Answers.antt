use Rattle.platform_str.specs.Strings.{bytes, path_bytes}
use Rattle.test_path_uses.proofs.PathParts.{whole_name}
use Rattle.test_path_uses.proofs.path_parts.stem_and_extension.Goals as goal

pub returns : goal.returns
returns g c =
    let w = g.E.PathStyle.follows in
    let s = path_bytes c.args.path in
    whole_name w s (bytes c.in-Some.stem) (bytes c.in-Some-extension.extension) (λ a b h k. c.one_file_name.ensures w s c.components-components.result.items a b c.components-components.ensures.items h k) (λ name a e b f h k. (c.one_extension.ensures name a e b f h k).0) c.in-Some.ensures c.in-Some-extension.ensures
