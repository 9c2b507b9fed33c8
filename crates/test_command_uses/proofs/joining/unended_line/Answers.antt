use Rattle.std.proofs.Common.{subst}
use Rattle.names_commands.specs.Task.{rules_of}
use Rattle.list_programs.specs.ListRun.{IsOutput}
use Rattle.test_command_uses.proofs.KnownNames.{not_joined, not_ok}
use Rattle.test_command_uses.proofs.joining.unended_line.Goals as goal

pub returns : goal.returns
returns g c =
    not_ok c.run_over.result _ c.run_over.ensures.written
    (λ written. not_joined g.E.Platform c.args.max c.args.line.now written.0 c.requires.whole c.requires.some (subst (λ s. IsOutput (rules_of g.E.Platform s) c.args.line.now written.0) c.new-settings.ensures written.1.0))
