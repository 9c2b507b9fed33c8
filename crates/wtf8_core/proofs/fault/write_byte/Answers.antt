use Rattle.wtf8_core.proofs.Common.{◌++◌, true, refl, ap, codes, upper_hex, not_representable}
use Rattle.std.proofs.Output.{has_written_styled_append, has_written_styled_of_eq}
use Rattle.wtf8_core.proofs.fault.write_byte.Goals as goal

pub returns : goal.returns
returns g c = λ flush ok.
    let head = c.in_ok-write_str.ensures.styled flush (refl {a = true}) in
    let name = c.in_ok-write_str-2.ensures.styled head.flush (refl {a = true}) in
    let digits = c.in_ok-write_upper_hex.ensures name.flush (refl {a = true}) in
    let end = c.write_str-3.ensures.styled digits.flush ok in
    has_written_styled_of_eq _ _ _ _ _
    (ap (λ b. not_representable ++ (codes "byte b'\\x" ++ (upper_hex 2 b ++ codes "'"))) c.from.ensures)
    (has_written_styled_append _ _ _ _ _ _ head (has_written_styled_append _ _ _ _ _ _ name (has_written_styled_append _ _ _ _ _ _ digits end)))
