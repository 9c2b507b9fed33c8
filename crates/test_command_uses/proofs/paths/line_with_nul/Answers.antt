use Rattle.std.proofs.Common.{subst}
use Rattle.paths_commands.specs.Task.{rules_of}
use Rattle.list_programs.specs.ListRun.{IsOutput}
use Rattle.list_programs.specs.declared.options.ItemEnd.TheVariants.{Newline}
use Rattle.test_command_uses.proofs.KnownNames.{not_ok}
use Rattle.test_command_uses.proofs.KnownPaths.{known_whole}
use Rattle.test_command_uses.proofs.paths.line_with_nul.Goals as goal

pub returns : goal.returns
returns g c =
    let P = g.E.Platform in
    let S = g.E.PathStyle.follows in
    let path = c.args.path.now in
    not_ok c.ask.result _ c.ask.ensures.written
    (λ written.
    c.requires.nul
    (known_whole P S c.args.task Newline 4096 path written.0 c.requires.whole c.requires.some
    (subst (λ l. IsOutput (rules_of P S c.args.task l l.end) path written.0) c.lacking.ensures written.1.0)))
