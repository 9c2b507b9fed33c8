use Rattle.std.proofs.Common.{rules}
use Rattle.platform_str.specs.Strings.{bytes}
use Rattle.test_uses.proofs.joins.starts_as_joined.Goals as goal

pub returns : goal.returns
returns g c =
    let joined = c.joins.ensures.prefixes (bytes c.args.prefix) (bytes c.args.string) (search rules) (search rules) in
    let starts = c.starts_with_os.ensures in
    (λ yes. joined.0 (starts.0 yes), λ rest. starts.1 (joined.1 rest))
