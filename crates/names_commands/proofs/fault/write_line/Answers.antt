use Rattle.std.proofs.Common.{true, refl}
use Rattle.std.proofs.Output.{has_written_styled_append}
use Rattle.names_commands.proofs.fault.write_line.Goals as goal

pub returns : goal.returns
returns g c = λ flush ok.
    let head = c.in_ok-write_str.ensures.styled flush (refl {a = true}) in
    let file = c.in_ok-write_number.ensures head.flush (refl {a = true}) in
    let mid = c.in_ok-write_str-2.ensures.styled file.flush (refl {a = true}) in
    let line = c.in_ok-write_number-2.ensures mid.flush (refl {a = true}) in
    let tail = c.write_str-3.ensures.styled line.flush ok in
    has_written_styled_append _ _ _ _ _ _ head (has_written_styled_append _ _ _ _ _ _ file (has_written_styled_append _ _ _ _ _ _ mid (has_written_styled_append _ _ _ _ _ _ line tail)))
