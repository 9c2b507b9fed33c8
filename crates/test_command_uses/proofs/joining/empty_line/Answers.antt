use Rattle.std.proofs.Common.{◌∷◌, [], subst}
use Rattle.names_commands.specs.Task.{rules_of}
use Rattle.list_programs.specs.ListRun.{IsOutput}
use Rattle.test_command_uses.proofs.KnownNames.{no_empty, not_ok}
use Rattle.test_command_uses.proofs.joining.empty_line.Goals as goal

pub returns : goal.returns
returns g c =
    not_ok c.run_over.result _ c.run_over.ensures.written
    (λ written. no_empty g.E.Platform c.args.max written.0 (subst (λ s. IsOutput (rules_of g.E.Platform s) (0x0A ∷ []) written.0) c.new-settings.ensures written.1.0))
