use Rattle.wtf8_core.proofs.{Common.inr, lemmas.forms.Shapes.length-form_surrogate, lemmas.forms.LastForms.form_at_end, lemmas.forms.LastForms.too_short}
use Rattle.wtf8_core.proofs.halves.split_last_surrogate.Goals as goal

pub returns-in_err-prefix : goal.returns-in_err-prefix
returns-in_err-prefix c = rw (c.from_residual.ensures) (λ prefix d i e. too_short c.args.string.now prefix _ 3 c.in_err-prefix.ensures.cases (inr (length-form_surrogate d i)) e)

pub returns-in_err-surrogate : goal.returns-in_err-surrogate
returns-in_err-surrogate c = rw (c.from_residual-in_err-surrogate.ensures) (λ prefix d i e. c.in_err-surrogate.ensures d i (form_at_end c.args.string.now c.in_ok-prefix.last.now prefix 3 d c.in_ok-prefix.ensures.cases.1 (length-form_surrogate d i) e))
