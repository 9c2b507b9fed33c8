use Rattle.std.proofs.Common.{true, refl, sym, ap}
use Rattle.std.proofs.Output.{has_written_styled_append, has_written_styled_of_eq}
use Rattle.glob_patterns.specs.ErrorText.{set_error_text}
use Rattle.glob_patterns.proofs.set_error.GlobSetErrorDisplay.fmt.Goals as goal

pub returns-in_ok-write_str-in-Pattern-3-clause-styled : goal.returns-in_ok-write_str-in-Pattern-3-clause-styled
returns-in_ok-write_str-in-Pattern-3-clause-styled g c = λ flush ok.
    let which = c.in_ok-write_str-in-Pattern.ensures.styled flush (refl {a = true}) in
    let index = c.in_ok-write_number-in-Pattern.ensures which.flush (refl {a = true}) in
    let colon = c.in_ok-write_str-in-Pattern-2.ensures.styled index.flush (refl {a = true}) in
    let kind = c.in_ok-write_kind-in-Pattern.ensures colon.flush (refl {a = true}) in
    let at = c.in_ok-write_str-in-Pattern-3.ensures.styled kind.flush (refl {a = true}) in
    let place = c.write_number-in-Pattern.ensures at.flush ok in
    let kind_at = has_written_styled_append _ _ _ _ _ _ kind (has_written_styled_append _ _ _ _ _ _ at place) in
    has_written_styled_of_eq _ _ _ _ _ (sym (ap set_error_text c.in-Pattern.is))
    (has_written_styled_append _ _ _ _ _ _ which (has_written_styled_append _ _ _ _ _ _ index (has_written_styled_append _ _ _ _ _ _ colon kind_at)))
