use Rattle.test_line_uses.proofs.CommandLines.{missing}
use Rattle.test_line_uses.proofs.command_lines.value_after_operand.Goals as goal

pub returns : goal.returns
returns g c = missing c.one_outcome.ensures.next c.one_outcome.ensures.value _ _ _ _ _ c.next-word.ensures c.value-value.ensures
