use Rattle.std.proofs.Common.{subst}
use Rattle.names_commands.specs.Ignoring.{IsPath}
use Rattle.names_commands.proofs.ignoring.decider.Goals as goal

pub returns : goal.returns
returns g c =
    let path = c.path_of-is_dir.result.0.now in
    let is_dir = c.path_of-is_dir.result.1 in
    record {
      path = path;
      is_dir = is_dir;
      path_is = subst (λ n. IsPath n path is_dir) c.without_dot.ensures c.path_of-is_dir.ensures;
      verdict = c.matched.result;
      verdict_is = c.matched.ensures;
      numbers_are = c.numbers_of.ensures;
    }
