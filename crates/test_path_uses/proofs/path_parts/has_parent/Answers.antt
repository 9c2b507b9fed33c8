use Rattle.std.proofs.Common.{◌∙◌}
use Rattle.platform_str.specs.Strings.{path_bytes}
use Rattle.test_path_uses.proofs.PathParts.{has_parent}
use Rattle.test_path_uses.proofs.path_parts.has_parent.Goals as goal

pub returns : goal.returns
returns g c = λ items last are below. c.is_some.ensures ∙ has_parent path_bytes g.E.PathStyle.follows (path_bytes c.args.path) c.parent.result c.parent.ensures items last are below
