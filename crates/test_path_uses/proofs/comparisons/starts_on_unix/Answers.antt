use Rattle.path_rules.specs.declared.rules.Style.TheVariants.{Unix}
use Rattle.platform_str.specs.Strings.{path_bytes}
use Rattle.test_path_uses.proofs.Both.{both}
use Rattle.test_path_uses.proofs.comparisons.starts_on_unix.Goals as goal

pub returns : goal.returns
returns c = λ items first are first_are.
    both c.starts_with.ensures (both (c.starts_and_ends.ensures.starts Unix (path_bytes c.args.path) (path_bytes c.args.base) items first are first_are) (c.starts_and_ends.ensures.unix (path_bytes c.args.path) items first are))
