use Rattle.test_command_uses.proofs.TurnsEnded.{one_run, all_runs}
use Rattle.test_command_uses.proofs.plans.turns.Goals as goal

-- there was one run
pub returns-clause-one : goal.returns-clause-one
returns-clause-one g c = λ none. one_run _ _ none c.for_each_failure.result c.for_each_failure.ensures.turns

-- all plans were tried
pub returns-clause-all : goal.returns-clause-all
returns-clause-all g c = λ each. all_runs _ _ each c.for_each_failure.result c.for_each_failure.ensures.ended
