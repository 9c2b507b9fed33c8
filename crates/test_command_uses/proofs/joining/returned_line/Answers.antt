use Rattle.std.proofs.Common.{subst}
use Rattle.names_commands.specs.Task.{rules_of, with_limit}
use Rattle.names_commands.specs.declared.task.Task.TheVariants.{JoinWords}
use Rattle.list_programs.specs.ListRun.{IsOutput}
use Rattle.program_frame.specs.Strings.{strings}
use Rattle.program_frame.specs.declared.os.Os.TheVariants.{Unix}
use Rattle.test_command_uses.proofs.KnownNames.{no_return, not_ok}
use Rattle.test_command_uses.proofs.joining.returned_line.Goals as goal

pub returns : goal.returns
returns g c =
    let line = c.requires.returned in
    not_ok c.run_over.result _ c.run_over.ensures.written
    (λ written. no_return (strings Unix) c.args.max line.0 written.0 line.1.0
    (subst (λ l. IsOutput (rules_of (strings Unix) (with_limit JoinWords c.args.max)) l written.0) line.1.1
    (subst (λ s. IsOutput (rules_of (strings Unix) s) c.args.line.now written.0) c.new.ensures written.1.0)))
