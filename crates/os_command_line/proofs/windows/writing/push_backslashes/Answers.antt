use Rattle.std.proofs.Common.{◌∙◌}
use Rattle.os_command_line.proofs.windows.writing.push_backslashes.Goals as goal

pub returns-in_err-push_one-clause-grows : goal.returns-in_err-push_one-clause-grows
returns-in_err-push_one-clause-grows g c = (_, c.in_err-push_one.ensures.unchanged ∙ c.loop.invariant)

pub returns-clause-grows : goal.returns-clause-grows
returns-clause-grows g c = (_, c.loop.invariant)
