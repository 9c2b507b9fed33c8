use Rattle.std.proofs.Common.{true, refl, sym, ap}
use Rattle.std.proofs.Output.{has_written_styled_append, has_written_styled_of_eq}
use Rattle.os_args.proofs.lemmas.Plain.{plainly}
use Rattle.list_programs.specs.ListFault.{text_of}
use Rattle.list_programs.proofs.fault.ListFaultDisplay.fmt.Goals as goal

pub returns-in_ok-write_index-in-Rejected-clause-styled : goal.returns-in_ok-write_index-in-Rejected-clause-styled
returns-in_ok-write_index-in-Rejected-clause-styled g c = λ flush ok.
    let head = c.in_ok-write_index-in-Rejected.ensures flush (refl {a = true}) in
    let text = c.write.ensures head.flush ok in
    has_written_styled_of_eq _ _ _ _ _ (sym (ap (text_of g.F.ItemRejection.item g.F.ItemRejection.text_of) c.in-Rejected.is)) (has_written_styled_append _ _ _ _ _ _ head text)

pub returns-in_ok-write_number-in-TooLong-clause-styled : goal.returns-in_ok-write_number-in-TooLong-clause-styled
returns-in_ok-write_number-in-TooLong-clause-styled g c = λ flush ok.
    let head = c.in_ok-write_index-in-TooLong.ensures flush (refl {a = true}) in
    let longer = c.in_ok-write_str-in-TooLong.ensures.styled head.flush (refl {a = true}) in
    let number = c.in_ok-write_number-in-TooLong.ensures longer.flush (refl {a = true}) in
    let end = c.write_str-in-TooLong.ensures.styled number.flush ok in
    has_written_styled_of_eq _ _ _ _ _ (sym (ap (text_of g.F.ItemRejection.item g.F.ItemRejection.text_of) c.in-TooLong.is)) (has_written_styled_append _ _ _ _ _ _ head (has_written_styled_append _ _ _ _ _ _ longer (has_written_styled_append _ _ _ _ _ _ number end)))

pub returns-in_ok-write_index-in-Rejected-clause-writes : goal.returns-in_ok-write_index-in-Rejected-clause-writes
returns-in_ok-write_index-in-Rejected-clause-writes g c = λ plain ok. plainly plain (returns-in_ok-write_index-in-Rejected-clause-styled g c plain.flush ok)

pub returns-in_ok-write_number-in-TooLong-clause-writes : goal.returns-in_ok-write_number-in-TooLong-clause-writes
returns-in_ok-write_number-in-TooLong-clause-writes g c = λ plain ok. plainly plain (returns-in_ok-write_number-in-TooLong-clause-styled g c plain.flush ok)
