use Rattle.platform_str.specs.Strings.{path_bytes}
use Rattle.os_path.specs.Prefixes.{os_kind_of}
use Rattle.test_path_uses.proofs.KnownPrefix.{known, none}
use Rattle.test_path_uses.proofs.prefixes.known_prefix.Goals as goal

pub returns-clause-some : goal.returns-clause-some
returns-clause-some g c = known os_kind_of g.E.PathStyle.follows (path_bytes c.args.path) (c.one_list.ensures.prefix (path_bytes c.args.path)) c.prefix.result c.prefix.ensures

pub returns-clause-none : goal.returns-clause-none
returns-clause-none g c = none os_kind_of g.E.PathStyle.follows (path_bytes c.args.path) c.prefix.result c.prefix.ensures
