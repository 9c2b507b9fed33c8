use Rattle.std.proofs.Common.{sym, ◌∙◌, subst}
use Rattle.std.proofs.lemmas.Result.{IfErr-weaker}
use Rattle.std.specs.Io.KnownBytes.{Appends}
use Rattle.program_frame.specs.Marked.{marked_inner}
use Rattle.names_commands.specs.Task.{rules_of, with_limit}
use Rattle.names_commands.specs.declared.task.Task.TheVariants.{ListAll}
use Rattle.list_programs.specs.ListRun.{StopsOn}
use Rattle.test_command_uses.proofs.KnownNames.{line_before_second, no_write}
use Rattle.test_command_uses.proofs.listing.line_before.Goals as goal

pub returns : goal.returns
returns g c =
    let P = g.E.Platform in
    let names = c.args.names.now in
    IfErr-weaker c.run_over.result _ _
    (λ fault stopped name rest why cut whole is.
    let s = stopped (λ e. no_write 2 why (sym is ∙ e)) in
    let line = line_before_second P c.args.max names s.0 why (subst (λ f. StopsOn (rules_of P (with_limit ListAll c.args.max)) names s.0 f) is (subst (λ settings. StopsOn (rules_of P settings) names s.0 fault) c.new.ensures s.1.0)) name rest cut whole in
    (line.0, (line.1.0, subst (λ text. Appends (g.W.Write.contents (marked_inner c.args.writer.now)) (g.W.Write.contents (marked_inner c.run_over.new.writer)) text) line.1.1 s.1.1)))
    c.run_over.ensures.stopped
