use Rattle.platform_str.specs.Strings.{path_bytes}
use Rattle.test_path_uses.proofs.PathParts.{begins_with, is_shorter}
use Rattle.test_path_uses.proofs.path_parts.prefix_of_bytes.Goals as goal

pub returns-clause-bytes : goal.returns-clause-bytes
returns-clause-bytes g c = begins_with path_bytes g.E.PathStyle.follows (path_bytes c.args.path) c.parent.result c.parent.ensures

pub returns-clause-shorter : goal.returns-clause-shorter
returns-clause-shorter g c =
    is_shorter path_bytes g.E.PathStyle.follows (path_bytes c.args.path) (c.parent_is_shorter.ensures g.E.PathStyle.follows (path_bytes c.args.path)) c.parent.result c.parent.ensures
