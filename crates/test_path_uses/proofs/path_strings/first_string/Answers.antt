use Rattle.std.proofs.Common.{◌∷◌}
use Rattle.platform_str.specs.Strings.{bytes, path_bytes}
use Rattle.path_building.specs.Collected.{string_of}
use Rattle.test_path_uses.proofs.PathStrings.{first_given}
use Rattle.test_path_uses.proofs.path_strings.first_string.Goals as goal

pub returns : goal.returns
returns g c = λ first others are.
    let w = g.E.PathStyle.follows in
    let it = c.iter-left.ensures in
    first_given bytes (string_of w) c.next.result c.iter-left.result c.next.new.self it.0 first others c.next.ensures.steps it.1.1 (c.one_list.ensures.items w (path_bytes c.args.path) it.0 (first ∷ others) it.1.0 are)
