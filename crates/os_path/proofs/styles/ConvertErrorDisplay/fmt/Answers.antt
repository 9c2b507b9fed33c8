use Rattle.std.proofs.Common.{true, refl, sym, ap}
use Rattle.std.proofs.Output.{has_written_styled_append, has_written_styled_of_eq}
use Rattle.os_path.specs.ErrorText.{convert_error_text}
use Rattle.os_path.proofs.styles.ConvertErrorDisplay.fmt.Goals as goal

pub returns-in_ok-write_str-in-Component-clause-styled : goal.returns-in_ok-write_str-in-Component-clause-styled
returns-in_ok-write_str-in-Component-clause-styled g c = λ flush ok.
    let head = c.in_ok-write_str-in-Component.ensures.styled flush (refl {a = true}) in
    let index = c.write_number.ensures head.flush ok in
    has_written_styled_of_eq _ _ _ _ _ (sym (ap convert_error_text c.in-Component.is)) (has_written_styled_append _ _ _ _ _ _ head index)
