use Rattle.platform_str.specs.Strings.{path_bytes}
use Rattle.test_path_uses.proofs.ParentRoots.{with_root}
use Rattle.test_path_uses.proofs.roots.with_its_root.Goals as goal

pub returns : goal.returns
returns c = with_root path_bytes (path_bytes c.args.path) (c.one_list.ensures.prefix (path_bytes c.args.path)) c.parent.result c.parent.ensures
