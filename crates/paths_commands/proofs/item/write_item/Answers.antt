use Rattle.std.proofs.Common.{◌≡◌, ⊎_elim, rules, sym, subst}
use Rattle.std.proofs.lemmas.Result.{on_ok_weaker, IfErr-weaker}
use Rattle.platform_str.specs.Strings.{path_bytes}
use Rattle.list_programs.specs.Rules.{IsItemFault}
use Rattle.list_programs.specs.Items.{Lacks}
use Rattle.paths_commands.specs.Task.{rules_of, IsPathText, IsRejection}
use Rattle.paths_commands.proofs.item.write_item.Goals as goal

pub returns-in-None-clause-ok : goal.returns-in-None-clause-ok
returns-in-None-clause-ok g c =
    let P = g.E.Platform in
    let S = g.E.PathStyle.follows in
    let item = c.args.item.now in
    let same : path_bytes c.new.result ≡ item = search rules in
    let formed : P.well_formed item = search rules in
    let lacks : Lacks 0 item = search rules in
    on_ok_weaker c.write_path.result
    (λ t. (t.0, ((formed, (lacks, subst (λ s. IsPathText P S c.args.on.now.end c.args.on.now.task s t.0) same t.1.0)), t.1.1)))
    c.write_path.ensures.ok

pub returns-in-None-clause-fault : goal.returns-in-None-clause-fault
returns-in-None-clause-fault g c =
    let P = g.E.Platform in
    let S = g.E.PathStyle.follows in
    let task = c.args.on.now.task in
    let list = c.args.on.now.list in
    let end = c.args.on.now.end in
    let item = c.args.item.now in
    let same : path_bytes c.new.result ≡ item = search rules in
    IfErr-weaker c.write_path.result _ _
    (λ fault.
    ⊎_elim
    (λ memory. subst (IsItemFault (rules_of P S task list end) item) (sym memory) tt)
    (λ none. subst (IsItemFault (rules_of P S task list end) item) (sym none.1.0) (subst (λ s. IsRejection P S end task s none.0) same none.1.1)))
    c.write_path.ensures.fault
