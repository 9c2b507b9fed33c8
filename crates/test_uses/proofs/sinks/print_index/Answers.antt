use Rattle.std.proofs.Common.{true, refl}
use Rattle.std.proofs.Output.{has_written_styled_append}
use Rattle.test_uses.proofs.sinks.print_index.Goals as goal

pub returns : goal.returns
returns g c = λ flush ok.
    let head = c.in_ok-write_str.ensures.styled flush (refl {a = true}) in
    let number = c.in_ok-write_number.ensures head.flush (refl {a = true}) in
    let end = c.write_str-2.ensures.styled number.flush ok in
    has_written_styled_append _ _ _ _ _ _ head (has_written_styled_append _ _ _ _ _ _ number end)
