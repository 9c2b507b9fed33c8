use Rattle.std.proofs.Common.{◌∷◌, ◌∙◌, ap}
use Rattle.os_command_line.specs.ShellViews.{item_bytes, word_bytes}
use Rattle.osbytes_c.proofs.lemmas.Lines.{no_words_yet, word_has_room, one_more_word, fault_after, all_words}
use Rattle.osbytes_c.proofs.lines.shell_words.write_words.Goals as goal

pub loop-item-init : goal.loop-item-init
loop-item-init c = no_words_yet c.args.words _ c.args.out.now c.into_iter-item-iterator.ensures.into_iter_gives c.requires

pub push_word-count-requires : goal.push_word-count-requires
push_word-count-requires c =
    let next = c.in-Some.ensures.steps ∙ ap (λ z. item_bytes z ∷ c.next.new.self) c.in-Ok.is in
    word_has_room _ _ _ _ _ c.loop-item.invariant (word_bytes c.in-Ok.word) _ next

pub loop-item-preserved : goal.loop-item-preserved
loop-item-preserved c =
    let next = c.in-Some.ensures.steps ∙ ap (λ z. item_bytes z ∷ c.next.new.self) c.in-Ok.is in
    one_more_word _ _ _ _ _ c.loop-item.invariant (word_bytes c.in-Ok.word) _ next _ _ c.push_word-count.ensures

pub returns-in-Err : goal.returns-in-Err
returns-in-Err c = fault_after _ _ _ _ _ c.loop-item.invariant c.in-Err.fault _ (c.in-Some.ensures.steps ∙ ap (λ z. item_bytes z ∷ c.next.new.self) c.in-Err.is)

pub returns : goal.returns
returns c = all_words _ _ _ _ _ c.loop-item.invariant c.in-None.ensures.steps.0
