use Rattle.std.proofs.Common.{true, refl, sym, ap}
use Rattle.std.proofs.Output.{has_written_styled_append, has_written_styled_of_eq}
use Rattle.paths_commands.specs.Fault.{rejection_text}
use Rattle.paths_commands.proofs.fault.RejectionItemRejection.write.Goals as goal

pub returns-in_ok-write_str-in-NoStringThere : goal.returns-in_ok-write_str-in-NoStringThere
returns-in_ok-write_str-in-NoStringThere g c = λ flush ok.
    let head = c.in_ok-write_str-in-NoStringThere.ensures.styled flush (refl {a = true}) in
    let fault = c.fmt-in-NoStringThere.ensures.styled head.flush ok in
    has_written_styled_of_eq _ _ _ _ _ (sym (ap rejection_text c.in-NoStringThere.is)) (has_written_styled_append _ _ _ _ _ _ head fault)
