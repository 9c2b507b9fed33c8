use Rattle.wtf8_core.proofs.Common.{inl, subst, sym, ◌∙◌, IsLow}
use Rattle.wtf8_core.proofs.lemmas.forms.{Ranges.in_range-false, Ranges.low_surrogate, Shapes.length-form_surrogate, LastForms.form_at_start, LastForms.too_short, LastForms.same_first, LastForms.split_off}
use Rattle.wtf8_core.proofs.halves.split_first_low.Goals.{in_default-via-in-Some+else-is_low, in_default-via-in_default}
use Rattle.wtf8_core.proofs.halves.split_first_low.Goals as goal

pub returns-in_err-first : goal.returns-in_err-first
returns-in_err-first c = rw (c.from_residual.ensures) (λ d rest l e. too_short c.args.string.now _ rest 3 c.in_err-first.ensures.cases (inl (length-form_surrogate d (low_surrogate d l))) e)

pub returns-in_default : goal.returns-in_default
returns-in_default c = λ d rest l e. elim c.in_default.branch [
  | in_default-via-in-Some+else-is_low w ↦ let q = same_first c.args.string.now _ rest w.in-Some.c d (split_off c.args.string.now c.in_ok-first.first.now c.in_ok-first.rest.now _ c.in_ok-first.ensures.cases.0 c.in_ok-first.ensures.cases.1 w.in-Some.ensures.1) e in in_range-false _ _ _ (sym w.is_low.ensures ∙ w.if-is_low.false) (subst IsLow (sym (w.from.ensures ∙ q)) l)
  | in_default-via-in_default w ↦ w.in_default.ensures d (low_surrogate d l) (form_at_start c.args.string.now c.in_ok-first.first.now rest d c.in_ok-first.ensures.cases.0 (length-form_surrogate d (low_surrogate d l)) e)
]
