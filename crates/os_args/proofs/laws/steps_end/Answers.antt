use Rattle.os_args.proofs.lemmas.Joined.{less_left, never_more}
use Rattle.os_args.proofs.laws.steps_end.Goals as goal

pub returns-clause-next : goal.returns-clause-next
returns-clause-next c = less_left

pub returns-clause-each : goal.returns-clause-each
returns-clause-each c = never_more
