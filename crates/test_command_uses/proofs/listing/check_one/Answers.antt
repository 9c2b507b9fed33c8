use Rattle.std.proofs.Common.{sym, ◌∙◌, subst}
use Rattle.std.proofs.lemmas.Result.{IfErr-weaker}
use Rattle.names_commands.specs.Task.{rules_of}
use Rattle.names_commands.specs.declared.task.Task.TheVariants.{Check}
use Rattle.list_programs.specs.ListRun.{StopsOn}
use Rattle.test_command_uses.specs.OneFile.{unended}
use Rattle.test_command_uses.proofs.KnownNames.{known_fault, no_write}
use Rattle.test_command_uses.proofs.listing.check_one.Goals as goal

pub returns : goal.returns
returns g c =
    let P = g.E.Platform in
    let name = c.args.name.now in
    IfErr-weaker c.run_over.result _ _
    (λ fault stopped number error is.
    let s = stopped (λ e. no_write number _ (sym is ∙ e)) in
    known_fault P c.args.max name s.0 number error c.requires.whole (subst (λ f. StopsOn (rules_of P (record { task = Check; list = unended c.args.max })) name s.0 f) is s.1.0))
    c.run_over.ensures.stopped
