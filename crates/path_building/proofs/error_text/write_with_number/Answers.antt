use Rattle.std.proofs.Common.{true, refl}
use Rattle.std.proofs.Output.{has_written_styled_append}
use Rattle.path_building.proofs.error_text.write_with_number.Goals as goal

pub returns : goal.returns
returns g c = λ flush ok.
    let text = c.in_ok-write_str.ensures.styled flush (refl {a = true}) in
    let number = c.write_number.ensures text.flush ok in has_written_styled_append _ _ _ _ _ _ text number
