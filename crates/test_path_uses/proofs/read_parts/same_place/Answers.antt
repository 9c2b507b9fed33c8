use Rattle.platform_str.specs.Strings.{path_bytes}
use Rattle.test_path_uses.proofs.read_parts.same_place.Goals as goal

pub returns : goal.returns
returns g c =
    c.simplified_place.ensures g.E.PathStyle.follows (path_bytes c.args.path) c.components-components.result.items (path_bytes c.simplified.result) c.components-components.ensures.items c.simplified.ensures
