use Rattle.wtf8_core.proofs.Common.{true, refl, sym, ap, ◌∙◌, fault_text, Utf8, arith, common_steps, nat_tests}
use Rattle.std.proofs.Output.{has_written_styled_append, has_written_styled_of_eq}
use Rattle.wtf8_core.proofs.fault.EncodingErrorDisplay.fmt.Goals as goal

pub returns-in_ok-write_str-in-End-clause-styled : goal.returns-in_ok-write_str-in-End-clause-styled
returns-in_ok-write_str-in-End-clause-styled g c = λ flush ok.
    let head = c.in_ok-write_str-in-End.ensures.styled flush (refl {a = true}) in
    let name = c.write_str-in-End.ensures.styled head.flush ok in
    has_written_styled_of_eq _ _ _ _ _ (sym (ap fault_text c.in-End.is)) (has_written_styled_append _ _ _ _ _ _ head name)

pub returns-in_ok-write_str-in-None-clause-styled : goal.returns-in_ok-write_str-in-None-clause-styled
returns-in_ok-write_str-in-None-clause-styled g c = λ flush ok.
    let head = c.in_ok-write_str-in-None.ensures.styled flush (refl {a = true}) in
    let index = c.write_decimal.ensures head.flush ok in
    let i = c.in-Utf8.valid_up_to in
    has_written_styled_of_eq _ _ _ _ _ (sym (ap (λ len. fault_text (Utf8 i len)) c.in-None.is) ∙ sym (ap fault_text c.in-Utf8.is)) (has_written_styled_append _ _ _ _ _ _ head index)

pub returns-in-Byte-clause-styled : goal.returns-in-Byte-clause-styled
returns-in-Byte-clause-styled g c = λ flush ok. has_written_styled_of_eq _ _ _ _ _ (sym (ap fault_text c.in-Byte.is)) (c.write_byte.ensures flush ok)

pub returns-in-CodePoint-clause-styled : goal.returns-in-CodePoint-clause-styled
returns-in-CodePoint-clause-styled g c = λ flush ok. has_written_styled_of_eq _ _ _ _ _ (sym (ap fault_text c.in-CodePoint.is)) (c.write_code_point.ensures flush ok)

pub returns-in-Some-clause-styled : goal.returns-in-Some-clause-styled
returns-in-Some-clause-styled g c = grind (arith, nat_tests, common_steps, c.in-Some.is, c.in-Utf8.is, c.write_ill_formed.ensures)
