use Rattle.std.proofs.Common.{true, refl}
use Rattle.std.proofs.Output.{has_written_styled_append}
use Rattle.list_programs.proofs.misuse.write_texts.Goals as goal

pub returns : goal.returns
returns g c = λ flush ok.
    let head = c.in_ok-write_str.ensures.styled flush (refl {a = true}) in
    has_written_styled_append _ _ _ _ _ _ head (c.write_str-2.ensures.styled head.flush ok)
