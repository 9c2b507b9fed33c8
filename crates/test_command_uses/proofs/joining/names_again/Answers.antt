use Rattle.std.proofs.Common.{refl}
use Rattle.std.proofs.lemmas.Result.{on_ok_weaker}
use Rattle.names_commands.specs.declared.task.EmptyLine.TheVariants.{IsRejected}
use Rattle.test_command_uses.proofs.joining.names_again.Goals as goal

pub returns : goal.returns
returns g c =
    let same = c.names_come_back.ensures.same IsRejected c.args.list c.args.list c.args.names.now c.args.lines.now in
    on_ok_weaker c.run_over.result
    (λ written. (written.0, (same written.0 refl c.requires.listed written.1.0, written.1.1)))
    c.run_over.ensures.written
