use Rattle.os_command_line.proofs.windows.writing.push_bare.Goals as goal

pub returns-in_err-push_units-clause-grows : goal.returns-in_err-push_units-clause-grows
returns-in_err-push_units-clause-grows g c = c.push_units.ensures.grows

pub returns-clause-grows : goal.returns-clause-grows
returns-clause-grows g c = c.push_units.ensures.grows
