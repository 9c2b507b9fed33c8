use Rattle.std.proofs.Common.{◌∙◌}
use Rattle.path_rules.specs.PrefixViews.{kind_of}
use Rattle.test_path_uses.proofs.PrefixEnds.{none_found}
use Rattle.test_path_uses.proofs.prefix_ends.front_has_prefix.Goals as goal

pub returns : goal.returns
returns c = λ more j e none.
    c.is_some.ensures ∙ none_found (λ found. kind_of found.0) (λ found. found.1.now) c.args.front.now c.windows_prefix.result (c.none_by_cut.ensures c.args.path.now c.args.front.now more j e none) c.windows_prefix.ensures
