use Rattle.std.proofs.Common.{true, refl, sym, ap}
use Rattle.std.proofs.Output.{has_written_styled_append, has_written_styled_of_eq}
use Rattle.list_programs.specs.ListFault.{unended_text}
use Rattle.list_programs.proofs.fault.write_unended.Goals as goal

pub returns-in_ok-write_number-in-Nul : goal.returns-in_ok-write_number-in-Nul
returns-in_ok-write_number-in-Nul g c = λ flush ok.
    let head = c.in_ok-write_str-in-Nul.ensures.styled flush (refl {a = true}) in
    let item = has_written_styled_of_eq _ _ _ _ _ c.item.ensures (c.in_ok-write_str-in-Nul-2.ensures.styled head.flush (refl {a = true})) in
    let space = c.in_ok-write_str-in-Nul-3.ensures.styled item.flush (refl {a = true}) in
    let number = c.in_ok-write_number-in-Nul.ensures space.flush (refl {a = true}) in
    let end = c.write_str-in-Nul-3.ensures.styled number.flush ok in
    has_written_styled_of_eq _ _ _ _ _ (sym (ap (unended_text g.F.ItemRejection.item c.args.number) c.in-Nul.is)) (has_written_styled_append _ _ _ _ _ _ head (has_written_styled_append _ _ _ _ _ _ item (has_written_styled_append _ _ _ _ _ _ space (has_written_styled_append _ _ _ _ _ _ number end))))

pub returns-in_ok-write_index-in-Newline : goal.returns-in_ok-write_index-in-Newline
returns-in_ok-write_index-in-Newline g c = λ flush ok.
    let head = c.in_ok-write_index-in-Newline.ensures flush (refl {a = true}) in
    let end = c.write_str-in-Newline.ensures.styled head.flush ok in
    has_written_styled_of_eq _ _ _ _ _ (sym (ap (unended_text g.F.ItemRejection.item c.args.number) c.in-Newline.is)) (has_written_styled_append _ _ _ _ _ _ head end)
