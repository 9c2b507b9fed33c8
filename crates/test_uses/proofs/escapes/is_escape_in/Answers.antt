use Rattle.std.proofs.Common.{ℕ, List, IsTrue, sym, subst, arith}
use Rattle.os_quote.specs.Escape.{IsEscape}
use Rattle.os_quote.specs.declared.form.Form.TheVariants.{Text}
use Rattle.test_uses.proofs.Outcomes.{ok_tells}
use Rattle.test_uses.proofs.QuoteFaults.{no_fault}
use Rattle.test_uses.proofs.escapes.is_escape_in.Goals as goal

pub returns : goal.returns
returns g c =
    let P = g.E.Platform in
    let text = c.args.text.now in
    let W : Type 0 = (s : List ℕ) × (P.well_formed s × IsEscape P.units s text) in
    let tells = ok_tells W c.write_unescaped.result c.write_unescaped.ensures.string c.write_unescaped.ensures.fault c.write_unescaped.ensures.never_memory
    (λ count is. (is.string, is.escape (omega (arith, is.short, c.requires))))
    (λ e fault other w. no_fault Text P.well_formed P.units w.0 text w.1.0 w.1.1 (λ n. c.bad_escapes.ensures.never w.0 text n w.1.0 w.1.1) e fault other) in
    subst (λ b. (IsTrue b → W) × (W → IsTrue b)) (sym c.is_ok.ensures.value) tells
