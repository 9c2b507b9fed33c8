use Rattle.wtf8_core.proofs.Common.{◌∙◌, subst, sym, IsHigh}
use Rattle.wtf8_core.proofs.lemmas.forms.{Ranges.in_range-false, Ranges.high_surrogate, Shapes.length-form_surrogate, LastForms.same_last}
use Rattle.wtf8_core.proofs.halves.split_last_high.Goals.{in_default-via-in-Some+else-is_high, in_default-via-in_default}
use Rattle.wtf8_core.proofs.halves.split_last_high.Goals as goal

pub returns-in_default : goal.returns-in_default
returns-in_default c = λ other d h e. elim c.in_default.branch [
  | in_default-via-in-Some+else-is_high w ↦ let q = same_last c.args.string.now _ other w.in-Some.c d w.in-Some.ensures.1 e (length-form_surrogate w.in-Some.c w.in-Some.ensures.0 ∙ sym (length-form_surrogate d (high_surrogate d h))) in in_range-false _ _ _ (sym w.is_high.ensures ∙ w.if-is_high.false) (subst IsHigh (sym (w.from.ensures ∙ q)) h)
  | in_default-via-in_default w ↦ w.in_default.ensures other d (high_surrogate d h) e
]
