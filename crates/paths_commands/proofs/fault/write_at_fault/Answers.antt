use Rattle.std.proofs.Common.{true, refl, ap}
use Rattle.std.proofs.Output.{has_written_styled_append, has_written_styled_of_eq}
use Rattle.path_building.specs.ErrorText.{name_error_text}
use Rattle.paths_commands.specs.Fault.{quoted}
use Rattle.paths_commands.proofs.fault.write_at_fault.Goals as goal

pub returns : goal.returns
returns g c = λ flush ok.
    let reason = has_written_styled_of_eq _ _ _ _ _ (ap name_error_text c.from_one.ensures) (c.in_ok-fmt.ensures.styled flush (refl {a = true})) in
    let tail = has_written_styled_of_eq _ _ _ _ _ (ap quoted c.as_str.ensures.value) (c.write_quoted.ensures reason.flush ok) in
    has_written_styled_append _ _ _ _ _ _ reason tail
