use Rattle.std.proofs.Common.{sym, subst}
use Rattle.std.proofs.lemmas.Result.{on_ok_weaker, IfErr-weaker}
use Rattle.list_programs.specs.Rules.{IsItemFault}
use Rattle.names_commands.specs.Task.{IsText, rules_of}
use Rattle.names_commands.proofs.lemmas.Names.{words_item}
use Rattle.names_commands.proofs.item.write_item.Goals as goal

pub returns-in-Join-clause-ok : goal.returns-in-Join-clause-ok
returns-in-Join-clause-ok g c =
    on_ok_weaker c.write_name.result
    (λ text. (text.0, (subst (λ t. IsText g.E.Platform t c.args.settings.list c.args.item.now text.0) (sym c.in-Join.is) text.1.0, text.1.1)))
    c.write_name.ensures.ok

pub returns-in-Join-clause-fault : goal.returns-in-Join-clause-fault
returns-in-Join-clause-fault g c =
    IfErr-weaker c.write_name.result _ _
    (λ fault is. subst (λ t. IsItemFault (rules_of g.E.Platform (record { task = t; list = c.args.settings.list })) c.args.item.now fault) (sym c.in-Join.is) is)
    c.write_name.ensures.fault

pub returns-in-JoinWords-clause-fault : goal.returns-in-JoinWords-clause-fault
returns-in-JoinWords-clause-fault g c =
    IfErr-weaker c.write_names.result _ _
    (λ fault is. subst (λ t. IsItemFault (rules_of g.E.Platform (record { task = t; list = c.args.settings.list })) c.args.item.now fault) (sym c.in-JoinWords.is) (words_item g.E.Platform c.args.settings.list c.args.item.now fault is))
    c.write_names.ensures.fault
