use Rattle.std.proofs.Common.{true, refl, sym, ap}
use Rattle.std.proofs.Output.{has_written_styled_append, has_written_styled_of_eq}
use Rattle.glob_patterns.specs.ErrorText.{error_text}
use Rattle.glob_patterns.proofs.error.GlobErrorDisplay.fmt.Goals as goal

pub returns-in_ok-write_str-in-Pattern-clause-styled : goal.returns-in_ok-write_str-in-Pattern-clause-styled
returns-in_ok-write_str-in-Pattern-clause-styled g c = λ flush ok.
    let kind = c.in_ok-write_kind-in-Pattern.ensures flush (refl {a = true}) in
    let at = c.in_ok-write_str-in-Pattern.ensures.styled kind.flush (refl {a = true}) in
    let index = c.write_number.ensures at.flush ok in
    has_written_styled_of_eq _ _ _ _ _ (sym (ap error_text c.in-Pattern.is)) (has_written_styled_append _ _ _ _ _ _ kind (has_written_styled_append _ _ _ _ _ _ at index))
