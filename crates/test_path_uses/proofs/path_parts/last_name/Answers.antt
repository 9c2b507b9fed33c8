use Rattle.platform_str.specs.Strings.{bytes, path_bytes}
use Rattle.test_path_uses.proofs.PathParts.{known_name}
use Rattle.test_path_uses.proofs.path_parts.last_name.Goals as goal

pub returns : goal.returns
returns g c = known_name bytes g.E.PathStyle.follows (path_bytes c.args.path) c.file_name.result c.file_name.ensures
