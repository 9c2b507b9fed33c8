use Rattle.std.proofs.Common.{sym, ◌∙◌, subst}
use Rattle.std.proofs.lemmas.Result.{IfErr-weaker}
use Rattle.paths_commands.specs.Task.{rules_of}
use Rattle.paths_commands.specs.declared.fault.Rejection.TheVariants.{NoString}
use Rattle.list_programs.specs.ListRun.{StopsOn}
use Rattle.list_programs.specs.declared.options.ItemEnd.TheVariants.{Nul}
use Rattle.test_command_uses.specs.OneFile.{lacking}
use Rattle.test_command_uses.proofs.KnownPaths.{known_rejection, no_write}
use Rattle.test_command_uses.proofs.paths.requested_one.Goals as goal

pub returns : goal.returns
returns g c =
    let P = g.E.Platform in
    let path = c.args.path.now in
    IfErr-weaker c.ask.result _ _
    (λ fault stopped number error is.
    let s = stopped (λ e. no_write number _ (sym is ∙ e)) in
    known_rejection P g.E.PathStyle.follows c.args.task Nul 4096 path s.0 number (NoString error) c.requires.whole
    (subst (λ f. StopsOn (rules_of P g.E.PathStyle.follows c.args.task (lacking Nul 4096) Nul) path s.0 f) is
    (subst (λ l. StopsOn (rules_of P g.E.PathStyle.follows c.args.task l l.end) path s.0 fault) c.lacking.ensures s.1.0)))
    c.ask.ensures.stopped
