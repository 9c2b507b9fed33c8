use Rattle.std.proofs.Common.{sym, ◌∙◌, subst}
use Rattle.std.proofs.lemmas.Result.{IfErr-weaker}
use Rattle.names_commands.specs.Task.{rules_of, with_limit}
use Rattle.names_commands.specs.declared.task.Task.TheVariants.{ListAll}
use Rattle.list_programs.specs.ListRun.{IsOutput, StopsOn}
use Rattle.test_command_uses.proofs.KnownNames.{end_no_write, first_unended, not_listed, not_ok}
use Rattle.test_command_uses.proofs.listing.unended_name.Goals as goal

pub returns-clause-rejected : goal.returns-clause-rejected
returns-clause-rejected g c =
    not_ok c.run_over.result _ c.run_over.ensures.written
    (λ written. not_listed g.E.Platform c.args.max c.args.name.now written.0 c.requires.whole c.requires.some (subst (λ s. IsOutput (rules_of g.E.Platform s) c.args.name.now written.0) c.new.ensures written.1.0))

pub returns-clause-first : goal.returns-clause-first
returns-clause-first g c =
    let P = g.E.Platform in
    let name = c.args.name.now in
    IfErr-weaker c.run_over.result _ _
    (λ fault stopped number end is.
    let s = stopped (λ e. end_no_write number end (sym is ∙ e)) in
    first_unended P c.args.max name s.0 number end c.requires.whole
    (subst (λ f. StopsOn (rules_of P (with_limit ListAll c.args.max)) name s.0 f) is
    (subst (λ settings. StopsOn (rules_of P settings) name s.0 fault) c.new.ensures s.1.0)))
    c.run_over.ensures.stopped
