use Rattle.os_quote.proofs.Common.{◌++◌, length, append-nil, ap, ◌∙◌, sym, arith, nil_from_length, length-append, eqb-true, bytes, escape_in, true≢false}
use Rattle.std.proofs.lemmas.Bool.{eq-eqb}
use Rattle.os_quote.proofs.lemmas.Stripping.{is_escape, escape_is, no_escape_of}
use Rattle.os_quote.proofs.read_string.has_escape.Goals as goal

pub returns-in-Ok : goal.returns-in-Ok
returns-in-Ok g c =
    let units = g.E.Platform.units in
    let s = bytes c.args.string in
    let text = c.args.text.now in
    let rest = c.write_escape_to.new.sink.rest.now in
    let escape = escape_in c.args.form units s in (
      λ t. is_escape c.args.form units s text (c.in-Ok.ensures ∙ ap (λ x. escape ++ x) (nil_from_length rest (eqb-true (length rest) 0 (sym c.is_empty.ensures ∙ t))) ∙ append-nil escape),
      λ e. c.is_empty.ensures ∙ eq-eqb (length rest) 0 (omega (arith, ap length (sym (escape_is c.args.form units s text e) ∙ c.in-Ok.ensures), length-append escape rest)),
    )

pub returns-in-Err : goal.returns-in-Err
returns-in-Err g c = (
  λ t. absurd (true≢false (sym t)),
  λ e. absurd (no_escape_of c.args.form g.E.Platform.units (bytes c.args.string) c.args.text.now c.in-Err.ensures e),
)
