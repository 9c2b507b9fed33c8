use Rattle.platform_str.specs.Strings.{path_bytes}
use Rattle.test_path_uses.proofs.PathEnds.{trimmed_begins, root_stays}
use Rattle.test_path_uses.proofs.path_ends.trimmed.Goals as goal

pub returns-clause-begins : goal.returns-clause-begins
returns-clause-begins g c = trimmed_begins g.E.PathStyle.follows (path_bytes c.args.path) (path_bytes c.trim_trailing_sep.result) c.trim_trailing_sep.ensures

pub returns-clause-root : goal.returns-clause-root
returns-clause-root g c = root_stays g.E.PathStyle.follows (path_bytes c.args.path) (path_bytes c.trim_trailing_sep.result) c.trim_trailing_sep.ensures
