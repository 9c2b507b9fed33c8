use Rattle.std.proofs.lemmas.Result.{on_ok_weaker, IfErr-weaker}
use Rattle.list_programs.proofs.lemmas.Passing.{none_output, none_up_to, none_beginning}
use Rattle.list_programs.proofs.run.run.Goals as goal

pub returns-clause-written : goal.returns-clause-written
returns-clause-written g c = on_ok_weaker c.run_with.result (none_output (g.T.ListTask.rules (g.T.ListTask.plan c.args.task.now)) _ _ _) c.run_with.ensures.written

pub returns-clause-stopped : goal.returns-clause-stopped
returns-clause-stopped g c = IfErr-weaker c.run_with.result _ _ (λ fault stopped other. none_up_to (g.T.ListTask.rules (g.T.ListTask.plan c.args.task.now)) fault _ _ _ (stopped other)) c.run_with.ensures.stopped

pub returns-clause-beginning : goal.returns-clause-beginning
returns-clause-beginning g c = λ e. none_beginning (g.T.ListTask.rules (g.T.ListTask.plan c.args.task.now)) _ _ _ (c.run_with.ensures.beginning e)
