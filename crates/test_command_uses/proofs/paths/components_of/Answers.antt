use Rattle.std.proofs.Common.{subst}
use Rattle.std.proofs.lemmas.Result.{on_ok_weaker}
use Rattle.paths_commands.specs.Task.{rules_of}
use Rattle.paths_commands.specs.declared.task.Task.TheVariants.{Components}
use Rattle.list_programs.specs.ListRun.{IsOutput}
use Rattle.list_programs.specs.declared.options.ItemEnd.TheVariants.{Nul}
use Rattle.test_command_uses.proofs.KnownPaths.{known_components}
use Rattle.test_command_uses.proofs.paths.components_of.Goals as goal

pub returns : goal.returns
returns g c =
    on_ok_weaker c.ask.result
    (λ written. (written.0, (known_components g.E.Platform g.E.PathStyle.follows Nul 4096 c.args.path.now written.0 c.requires.whole c.requires.some (subst (λ l. IsOutput (rules_of g.E.Platform g.E.PathStyle.follows Components l l.end) c.args.path.now written.0) c.lacking.ensures written.1.0), written.1.1)))
    c.ask.ensures.written
