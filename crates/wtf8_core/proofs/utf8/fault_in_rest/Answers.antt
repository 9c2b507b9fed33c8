use Rattle.wtf8_core.proofs.Common.{common_steps, rules, subst, IsUtf8}
use Rattle.wtf8_core.proofs.lemmas.texts.LossyTexts.{text_after, fault_in_rest}
use Rattle.wtf8_core.proofs.utf8.fault_in_rest.Goals as goal

pub returns : goal.returns
returns c = search (rules, common_steps, fault_in_rest, c.requires.within, c.requires.text, c.split_at.ensures.back)

pub returns-in_err-valid_up_to : goal.returns-in_err-valid_up_to
returns-in_err-valid_up_to c = let text = text_after c.args.bytes.now c.args.at c.requires.within c.requires.text (subst IsUtf8 c.split_at.ensures.back c.in_err-valid_up_to.ensures) in search rules
