use Rattle.std.proofs.Common.{subst}
use Rattle.std.proofs.lemmas.Result.{on_ok_weaker}
use Rattle.paths_commands.specs.Task.{rules_of}
use Rattle.paths_commands.specs.declared.task.Task.TheVariants.{StartsWith}
use Rattle.list_programs.specs.ListRun.{IsOutput}
use Rattle.list_programs.specs.declared.options.ItemEnd.TheVariants.{Nul}
use Rattle.test_command_uses.proofs.KnownPaths.{known_picked}
use Rattle.test_command_uses.proofs.paths.begins_with.Goals as goal

pub returns : goal.returns
returns g c =
    let P = g.E.Platform in
    let S = g.E.PathStyle.follows in
    let base = c.args.base in
    let path = c.args.path.now in
    on_ok_weaker c.ask.result
    (λ written. (written.0, (known_picked P S Nul 4096 base path written.0 c.requires.whole c.requires.some (subst (λ l. IsOutput (rules_of P S (StartsWith base) l l.end) path written.0) c.lacking.ensures written.1.0), written.1.1)))
    c.ask.ensures.written
