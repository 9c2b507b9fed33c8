use Rattle.osbytes_commands.proofs.answer.answer_on.Goals as goal

pub returns-in-Find-clause-output : goal.returns-in-Find-clause-output
returns-in-Find-clause-output g c = rw c.in-Find.is c.find.ensures.output

pub returns-in-Split-clause-output : goal.returns-in-Split-clause-output
returns-in-Split-clause-output g c = rw c.in-Split.is c.split.ensures.output
