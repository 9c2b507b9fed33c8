use Rattle.wtf8_core.proofs.Common.{◌++◌, true, refl, ap, codes, decimal}
use Rattle.std.proofs.Output.{has_written_styled_append, has_written_styled_of_eq}
use Rattle.wtf8_core.proofs.fault.write_ill_formed.Goals as goal

pub returns : goal.returns
returns g c = λ flush ok.
    let head = c.in_ok-write_str.ensures.styled flush (refl {a = true}) in
    let len = c.in_ok-write_decimal.ensures head.flush (refl {a = true}) in
    let name = c.in_ok-write_str-2.ensures.styled len.flush (refl {a = true}) in
    let index = c.write_decimal-2.ensures name.flush ok in
    has_written_styled_of_eq _ _ _ _ _
    (ap (λ n. codes "invalid utf-8 sequence of " ++ (decimal n ++ (codes " bytes from index " ++ decimal c.args.index))) c.from.ensures)
    (has_written_styled_append _ _ _ _ _ _ head (has_written_styled_append _ _ _ _ _ _ len (has_written_styled_append _ _ _ _ _ _ name index)))
