use Rattle.wtf8_core.proofs.Common.{◌++◌, true, refl, ap, codes, upper_hex, not_representable}
use Rattle.std.proofs.Output.{has_written_styled_append, has_written_styled_of_eq}
use Rattle.wtf8_core.proofs.fault.write_code_point.Goals as goal

pub returns : goal.returns
returns g c = λ flush ok.
    let head = c.in_ok-write_str.ensures.styled flush (refl {a = true}) in
    let name = c.in_ok-write_str-2.ensures.styled head.flush (refl {a = true}) in
    let digits = c.write_upper_hex.ensures name.flush ok in
    has_written_styled_of_eq _ _ _ _ _
    (ap (λ k. not_representable ++ (codes "code point U+" ++ upper_hex k c.args.value)) c.code_point_digits.ensures.value)
    (has_written_styled_append _ _ _ _ _ _ head (has_written_styled_append _ _ _ _ _ _ name digits))
