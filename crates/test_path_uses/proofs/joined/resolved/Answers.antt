use Rattle.platform_str.specs.Strings.{path_bytes}
use Rattle.test_path_uses.proofs.Both.{with_ok}
use Rattle.test_path_uses.proofs.joined.resolved.Goals as goal

pub returns : goal.returns
returns g c =
    with_ok c.join.result c.join.ensures (λ joined h v n bare some.
    c.resolved_components.ensures.items (path_bytes c.args.base) (path_bytes c.args.path) _ v n bare some h)
