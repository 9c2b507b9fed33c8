use Rattle.test_line_uses.proofs.CommandLines.{no_text}
use Rattle.test_line_uses.proofs.command_lines.flags_of_no_text.Goals as goal

pub returns : goal.returns
returns g c =
    no_text c.one_outcome.ensures.next c.one_outcome.ensures.value _ _ _ _ _ _ c.new-arguments.ensures c.next-word.ensures c.value-value.ensures
