use Rattle.test_line_uses.proofs.CommandLines.{dropped}
use Rattle.test_line_uses.proofs.command_lines.value_too_many.Goals as goal

pub returns : goal.returns
returns g c = dropped c.one_outcome.ensures.next _ _ _ c.next.ensures
