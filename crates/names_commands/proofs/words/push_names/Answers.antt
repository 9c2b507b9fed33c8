use Rattle.std.proofs.Common.{◌∷◌, ap, ◌∙◌, subst}
use Rattle.os_command_line.specs.ShellViews.{item_bytes, word_bytes}
use Rattle.names_commands.proofs.lemmas.Words.{IsBegun, one_begun, all_begun, word_fault}
use Rattle.names_commands.proofs.words.push_names.Goals as goal

pub loop-word-preserved : goal.loop-word-preserved
loop-word-preserved g c =
    let list = c.args.list in
    let line = c.args.line.now in
    let old = c.args.names.now.items in
    let left = c.next.new.self in
    let begun = subst (λ items. IsBegun list line items old c.loop-word.names.items) (c.in-Some.ensures.steps ∙ ap (λ item. item_bytes item ∷ left) c.in-Ok.is) c.loop-word.invariant in
    one_begun list line left old c.loop-word.names.items c.push_word.new.names.items (word_bytes c.in-Ok.word) begun c.in-Ok-push_word.ensures.name c.in-Ok-push_word.ensures.ok

pub returns-in-Err-push_word-clause-fault : goal.returns-in-Err-push_word-clause-fault
returns-in-Err-push_word-clause-fault g c =
    let list = c.args.list in
    let line = c.args.line.now in
    let old = c.args.names.now.items in
    let left = c.next.new.self in
    let begun = subst (λ items. IsBegun list line items old c.loop-word.names.items) (c.in-Some.ensures.steps ∙ ap (λ item. item_bytes item ∷ left) c.in-Ok.is) c.loop-word.invariant in
    word_fault list line c.requires left old c.loop-word.names.items (word_bytes c.in-Ok.word) c.in-Err-push_word.fault begun c.in-Err-push_word.ensures.fault

pub returns-clause-ok : goal.returns-clause-ok
returns-clause-ok g c =
    let list = c.args.list in
    let line = c.args.line.now in
    let old = c.args.names.now.items in
    all_begun list line c.requires old c.loop-word.names.items (subst (λ items. IsBegun list line items old c.loop-word.names.items) c.in-None.ensures.steps.0 c.loop-word.invariant)
