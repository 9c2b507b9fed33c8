use Rattle.path_rules.specs.declared.rules.Style.TheVariants.{Unix}
use Rattle.platform_str.specs.Strings.{path_bytes}
use Rattle.test_path_uses.proofs.Both.{with_ok}
use Rattle.test_path_uses.proofs.joined.joined_on_unix.Goals as goal

pub returns : goal.returns
returns g c =
    with_ok c.join.result c.join.ensures (λ joined h items more some relative are more_are.
    c.join_components.ensures.both Unix (path_bytes c.args.base) (path_bytes c.args.path) _ some (λ v. v) (λ p. p, relative) h tt items more are more_are)
