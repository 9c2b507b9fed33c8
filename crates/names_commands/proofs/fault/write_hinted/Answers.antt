use Rattle.std.proofs.Common.{true, refl}
use Rattle.std.proofs.Output.{has_written_styled_append, has_written_styled_of_eq}
use Rattle.names_commands.proofs.fault.write_hinted.Goals as goal

pub returns : goal.returns
returns g c = λ flush ok.
    let text = has_written_styled_of_eq _ _ _ _ _ c.as_str.ensures.value (c.in_ok-write_str.ensures.styled flush (refl {a = true})) in
    has_written_styled_append _ _ _ _ _ _ text (c.write_str-2.ensures.styled text.flush ok)
