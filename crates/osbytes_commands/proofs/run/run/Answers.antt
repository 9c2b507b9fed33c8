use Rattle.std.proofs.Common.{rules}
use Rattle.osbytes_commands.proofs.lemmas.OneAnswer.{rejected, not_rejected}
use Rattle.osbytes_commands.proofs.run.run.Goals as goal

pub returns-in_err-output-clause-rejection : goal.returns-in_err-output-clause-rejection
returns-in_err-output-clause-rejection g c = search (rules, rejected)

pub returns-in-Ok-clause-rejection : goal.returns-in-Ok-clause-rejection
returns-in-Ok-clause-rejection g c = search (rules, not_rejected)

pub returns-clause-rejection : goal.returns-clause-rejection
returns-clause-rejection g c = search (rules, not_rejected)
