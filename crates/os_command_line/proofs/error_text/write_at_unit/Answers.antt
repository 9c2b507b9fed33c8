use Rattle.std.proofs.Common.{true, refl}
use Rattle.std.proofs.Output.{has_written_styled_append}
use Rattle.os_command_line.proofs.error_text.write_at_unit.Goals as goal

pub returns : goal.returns
returns g c = λ flush ok.
    let what = c.in_ok-write_str.ensures.styled flush (refl {a = true}) in
    let middle = c.in_ok-write_str-2.ensures.styled what.flush (refl {a = true}) in
    let index = c.write_number.ensures middle.flush ok in
    has_written_styled_append _ _ _ _ _ _ what (has_written_styled_append _ _ _ _ _ _ middle index)
