use Rattle.platform_str.specs.Strings.{path_bytes}
use Rattle.test_path_uses.proofs.path_parts.parent_found_twice.Goals as goal

pub returns : goal.returns
returns g c = c.one_parent.ensures g.E.PathStyle.follows (path_bytes c.args.path) (path_bytes c.in_ok-once.once) (path_bytes c.in_ok-twice.twice) c.in_ok-once.ensures c.in_ok-twice.ensures
