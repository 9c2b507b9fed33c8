use Rattle.wtf8_core.proofs.{Common.inr, Common.ap, Common.length, lemmas.forms.LastForms.too_short, lemmas.forms.Shapes.form_past}
use Rattle.wtf8_core.proofs.halves.last_half.Goals as goal

pub returns-in_err-last : goal.returns-in_err-last
returns-in_err-last c = rw (c.from_residual.ensures) (λ prefix d h e. too_short c.args.string.now prefix _ 4 c.in_err-last.ensures.cases (inr (ap length (form_past d h))) e)
