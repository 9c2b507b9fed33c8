use Rattle.platform_str.specs.Strings.{path_bytes}
use Rattle.test_path_uses.proofs.PathParts.{first_ancestor, second_ancestor}
use Rattle.test_path_uses.proofs.path_parts.first_ancestors.Goals as goal

pub returns-clause-path : goal.returns-clause-path
returns-clause-path g c =
    first_ancestor g.E.PathStyle.follows (path_bytes c.args.path) c.next-first.result c.ancestors-left.result c.next-first.new.self c.ancestors-left.ensures c.next-first.ensures.steps

pub returns-clause-parent : goal.returns-clause-parent
returns-clause-parent g c =
    second_ancestor g.E.PathStyle.follows (path_bytes c.args.path) c.next-first.result c.next-second.result c.ancestors-left.result c.next-first.new.self c.next-second.new.self c.ancestors-left.ensures c.next-first.ensures.steps c.next-second.ensures.steps
