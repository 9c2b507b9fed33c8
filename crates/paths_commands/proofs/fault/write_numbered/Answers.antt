use Rattle.std.proofs.Common.{◌++◌, true, refl, ap}
use Rattle.std.proofs.Output.{has_written_styled_append, has_written_styled_of_eq}
use Rattle.std.specs.Prelude.{codes, decimal}
use Rattle.paths_commands.proofs.fault.write_numbered.Goals as goal

pub returns : goal.returns
returns g c = λ flush ok.
    let number = has_written_styled_of_eq _ _ _ _ _ (ap decimal c.saturating_add.ensures) (c.in_ok-write_number.ensures flush (refl {a = true})) in
    let tail = has_written_styled_of_eq _ _ _ _ _ (ap (λ t. codes ", '" ++ (t ++ codes "'")) c.as_str.ensures.value) (c.write_quoted.ensures number.flush ok) in
    has_written_styled_append _ _ _ _ _ _ number tail
