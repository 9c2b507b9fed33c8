use Rattle.platform_str.specs.Strings.{path_bytes}
use Rattle.test_path_uses.proofs.PathEnds.{only_root}
use Rattle.test_path_uses.proofs.path_ends.ending_root_alone.Goals as goal

pub returns : goal.returns
returns g c = λ t. only_root g.E.PathStyle.follows (path_bytes c.args.path) (path_bytes c.trim_trailing_sep.result) c.trim_trailing_sep.ensures t
