use Rattle.std.proofs.Common.{true, refl, ap}
use Rattle.std.specs.Prelude.{decimal}
use Rattle.std.proofs.Output.{has_written_styled_append, has_written_styled_of_eq}
use Rattle.paths_commands.proofs.fault.write_unlike.Goals as goal

pub returns : goal.returns
returns g c = λ flush ok.
    let what = c.in_ok-write_str.ensures.styled flush (refl {a = true}) in
    let middle = c.in_ok-write_str-2.ensures.styled what.flush (refl {a = true}) in
    let number = has_written_styled_of_eq _ _ _ _ _ (ap decimal c.saturating_add.ensures) (c.in_ok-write_number.ensures middle.flush (refl {a = true})) in
    let end = c.write_str-3.ensures.styled number.flush ok in
    has_written_styled_append _ _ _ _ _ _ what (has_written_styled_append _ _ _ _ _ _ middle (has_written_styled_append _ _ _ _ _ _ number end))
