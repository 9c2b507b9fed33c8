use Rattle.std.proofs.Common.{◌∙◌}
use Rattle.std.proofs.Output.{has_written_styled_of_eq}
use Rattle.path_building.proofs.lemmas.InlineTexts.{of_writes}
use Rattle.path_building.proofs.error_text.write_number.Goals as goal

pub returns : goal.returns
returns g c = λ flush ok.
    has_written_styled_of_eq _ _ _ _ _
    (c.as_str.ensures.value ∙ of_writes _ _ _ c.new-digits.ensures.intact c.new-digits.ensures.text c.in_ok-write.ensures.writes)
    (c.write_str.ensures.styled flush ok)
