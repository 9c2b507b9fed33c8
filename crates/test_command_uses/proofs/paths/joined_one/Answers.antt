use Rattle.std.proofs.Common.{◌≡◌, Some, None, refl, sym, ◌∙◌, subst}
use Rattle.std.proofs.lemmas.Result.{IfErr-weaker}
use Rattle.path_building.specs.BaseViews.{base_style}
use Rattle.path_building.specs.Faults.{IsNameFault}
use Rattle.paths_commands.specs.Task.{component_of, rules_of}
use Rattle.paths_commands.specs.declared.fault.Rejection.TheVariants.{NoJoin, NoJoinAt}
use Rattle.paths_commands.specs.declared.task.Task.TheVariants.{JoinChecked}
use Rattle.list_programs.specs.ListRun.{StopsOn}
use Rattle.list_programs.specs.declared.options.ItemEnd.TheVariants.{Nul}
use Rattle.test_command_uses.specs.OneFile.{lacking}
use Rattle.test_command_uses.proofs.KnownPaths.{known_unjoined, no_write}
use Rattle.test_command_uses.proofs.paths.joined_one.Goals as goal

pub returns-clause-at : goal.returns-clause-at
returns-clause-at g c =
    let P = g.E.Platform in
    let S = g.E.PathStyle.follows in
    let path = c.args.path.now in
    let base = c.args.base in
    let keeps = c.args.keeps in
    IfErr-weaker c.ask.result _ _
    (λ fault stopped number error text is.
    let s = stopped (λ e. no_write number _ (sym is ∙ e)) in
    let found = known_unjoined P S (JoinChecked base keeps) Nul 4096 base keeps path s.0 number (NoJoinAt error text) refl tt c.requires.whole (subst (λ f. StopsOn (rules_of P S (JoinChecked base keeps) (lacking Nul 4096) Nul) path s.0 f) is (subst (λ l. StopsOn (rules_of P S (JoinChecked base keeps) l l.end) path s.0 fault) c.lacking.ensures s.1.0)) in
    let same = sym found.1.1.1.0 in
    let at = found.1.1.1.1 in
    (found.0, (subst (IsNameFault (base_style base) path) same found.1.1.0.1, (at.0, (subst (λ e. component_of e ≡ Some at.0) same at.1.0, at.1.1)))))
    c.ask.ensures.stopped

pub returns-clause-alone : goal.returns-clause-alone
returns-clause-alone g c =
    let P = g.E.Platform in
    let S = g.E.PathStyle.follows in
    let path = c.args.path.now in
    let base = c.args.base in
    let keeps = c.args.keeps in
    IfErr-weaker c.ask.result _ _
    (λ fault stopped number error is.
    let s = stopped (λ e. no_write number _ (sym is ∙ e)) in
    let found = known_unjoined P S (JoinChecked base keeps) Nul 4096 base keeps path s.0 number (NoJoin error) refl tt c.requires.whole (subst (λ f. StopsOn (rules_of P S (JoinChecked base keeps) (lacking Nul 4096) Nul) path s.0 f) is (subst (λ l. StopsOn (rules_of P S (JoinChecked base keeps) l l.end) path s.0 fault) c.lacking.ensures s.1.0)) in
    let same = sym found.1.1.1.0 in
    (found.0, (subst (IsNameFault (base_style base) path) same found.1.1.0.1, subst (λ e. component_of e ≡ None) same found.1.1.1.1)))
    c.ask.ensures.stopped
