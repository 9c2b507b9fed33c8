use Rattle.platform_str.specs.Strings.{path_bytes}
use Rattle.test_path_uses.proofs.PathParts.{all_but_last, is_below}
use Rattle.test_path_uses.proofs.path_parts.parent_of.Goals as goal

pub returns-clause-items : goal.returns-clause-items
returns-clause-items g c = all_but_last path_bytes g.E.PathStyle.follows (path_bytes c.args.path) (c.one_list.ensures.items g.E.PathStyle.follows (path_bytes c.args.path)) c.parent.result c.parent.ensures

pub returns-clause-below : goal.returns-clause-below
returns-clause-below g c = is_below path_bytes g.E.PathStyle.follows (path_bytes c.args.path) (c.one_list.ensures.items g.E.PathStyle.follows (path_bytes c.args.path)) c.parent.result c.parent.ensures
