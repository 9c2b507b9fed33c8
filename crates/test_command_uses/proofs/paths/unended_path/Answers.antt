use Rattle.std.proofs.Common.{subst}
use Rattle.paths_commands.specs.Task.{rules_of}
use Rattle.list_programs.specs.ListRun.{IsOutput}
use Rattle.list_programs.specs.declared.options.ItemEnd.TheVariants.{Nul}
use Rattle.list_programs.specs.declared.options.LastItem.TheVariants.{MustEnd}
use Rattle.test_command_uses.proofs.KnownNames.{never_read, not_ok}
use Rattle.test_command_uses.proofs.paths.unended_path.Goals as goal

pub returns : goal.returns
returns g c =
    let P = g.E.Platform in
    let S = g.E.PathStyle.follows in
    let path = c.args.path.now in
    not_ok c.ask.result _ c.ask.ensures.written
    (λ written.
    never_read P (rules_of P S c.args.task (record { end = Nul; last = MustEnd; max = 4096 }) Nul) path written.0 c.requires.whole c.requires.some (λ never. never)
    (subst (λ l. IsOutput (rules_of P S c.args.task l l.end) path written.0) c.new.ensures written.1.0))
