use Rattle.std.proofs.Common.{subst}
use Rattle.os_ignore.specs.Walks.{files_of_walk}
use Rattle.names_commands.specs.Ignoring.{IsPath}
use Rattle.names_commands.proofs.lemmas.Ignored.{shown_where}
use Rattle.names_commands.proofs.ignoring.is_shown.Goals as goal

pub returns-clause-shown : goal.returns-clause-shown
returns-clause-shown g c =
    let path = c.path_of-is_dir.result.0.now in
    let is_dir = c.path_of-is_dir.result.1 in
    let is = subst (λ n. IsPath n path is_dir) c.without_dot.ensures c.path_of-is_dir.ensures in
    shown_where (files_of_walk c.args.walk.now) c.args.name.now path is_dir c.in_ok-verdict.verdict c.is_ignored.result is c.in_ok-verdict.ensures.verdict c.is_ignored.ensures
