use Rattle.std.proofs.Common.{true, refl}
use Rattle.std.proofs.Output.{has_written_styled_append, has_written_styled_of_eq}
use Rattle.list_programs.proofs.fault.write_index.Goals as goal

pub returns : goal.returns
returns g c = λ flush ok.
    let item = has_written_styled_of_eq _ _ _ _ _ c.item.ensures (c.in_ok-write_str.ensures.styled flush (refl {a = true})) in
    let space = c.in_ok-write_str-2.ensures.styled item.flush (refl {a = true}) in
    let number = c.in_ok-write_number.ensures space.flush (refl {a = true}) in
    let end = c.write_str-3.ensures.styled number.flush ok in
    has_written_styled_append _ _ _ _ _ _ item (has_written_styled_append _ _ _ _ _ _ space (has_written_styled_append _ _ _ _ _ _ number end))
