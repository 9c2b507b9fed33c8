use Rattle.platform_str.specs.Strings.{path_bytes}
use Rattle.os_path.specs.Prefixes.{os_kind_of}
use Rattle.os_path.specs.Views.{os_item_of}
use Rattle.test_path_uses.proofs.PrefixEnds.{first_kind, no_first}
use Rattle.test_path_uses.proofs.prefix_ends.kind_of_first.Goals as goal

pub returns-in-Some : goal.returns-in-Some
returns-in-Some c = λ kind rest p.
    first_kind os_item_of os_kind_of (path_bytes c.args.path) c.one_list.ensures.prefix c.prefix_stays.ensures c.in-Some.first c.components-left.result.items _ c.kind.result c.components-left.ensures.items c.in-Some.ensures.steps.0 c.kind.ensures kind rest p

pub returns-in-None : goal.returns-in-None
returns-in-None c = λ kind rest p.
    absurd (no_first (path_bytes c.args.path) c.one_list.ensures.prefix c.prefix_stays.ensures c.components-left.result.items c.components-left.result.items c.components-left.ensures.items c.in-None.ensures.steps.0.0 kind rest p)
