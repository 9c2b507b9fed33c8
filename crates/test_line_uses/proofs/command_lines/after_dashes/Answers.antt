use Rattle.test_line_uses.proofs.CommandLines.{dashes_first}
use Rattle.test_line_uses.proofs.command_lines.after_dashes.Goals as goal

pub returns : goal.returns
returns g c = dashes_first c.one_outcome.ensures.next _ _ _ _ c.new-arguments.ensures c.next.ensures
