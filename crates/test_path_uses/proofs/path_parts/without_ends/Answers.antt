use Rattle.std.proofs.Common.{◌∷◌, ◌++◌, []}
use Rattle.platform_str.specs.Strings.{path_bytes}
use Rattle.os_path.specs.Views.{os_item_of}
use Rattle.test_path_uses.proofs.PathParts.{ends_taken}
use Rattle.test_path_uses.proofs.path_parts.without_ends.Goals as goal

pub returns : goal.returns
returns g c = λ first middle last are.
    ends_taken os_item_of c.next.result c.next_back.result c.components-left.result.items c.next.new.self.items c.next_back.new.self.items first middle last c.next.ensures.steps.0 c.next_back.ensures.steps.0
    (c.one_list.ensures.items g.E.PathStyle.follows (path_bytes c.args.path) c.components-left.result.items (first ∷ (middle ++ last ∷ [])) c.components-left.ensures.items are)
