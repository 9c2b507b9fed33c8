use Rattle.std.proofs.{Common.true, Common.refl, Common.sym, Common.ap, Output.has_written_styled_append, Output.has_written_styled_of_eq}
use Rattle.os_quote.specs.ErrorText.{error_text}
use Rattle.os_quote.proofs.error.QuoteErrorDisplay.fmt.Goals as goal

pub returns-in_ok-write_str-in-BadEscape-clause-styled : goal.returns-in_ok-write_str-in-BadEscape-clause-styled
returns-in_ok-write_str-in-BadEscape-clause-styled g c = λ flush ok.
    let head = c.in_ok-write_str-in-BadEscape.ensures.styled flush (refl {a = true}) in
    let index = c.write_number.ensures head.flush ok in
    has_written_styled_of_eq _ _ _ _ _ (sym (ap error_text c.in-BadEscape.is)) (has_written_styled_append _ _ _ _ _ _ head index)
