use Rattle.std.proofs.Common.{Bool, Ok, Err, refl}
use Rattle.std.specs.Prelude.{⊤}
use Rattle.list_programs.proofs.lemmas.Runs.{no_err, other_err}
use Rattle.list_programs.proofs.answers.run_list_with.Goals as goal

pub returns-in-Ok-clause-run : goal.returns-in-Ok-clause-run
returns-in-Ok-clause-run g c = (Ok tt, (record { all_read = c.in-Ok.ensures.all_read; written = c.in-Ok.ensures.written; stopped = tt; beginning = λ e. absurd (no_err e) }, refl))

pub returns-in-Err-clause-run : goal.returns-in-Err-clause-run
returns-in-Err-clause-run g c = (Err c.in-Err.fault, (record { all_read = tt; written = tt; stopped = c.in-Err.ensures.stopped; beginning = λ e. c.in-Err.ensures.beginning (other_err ⊤ Bool _ _ e) }, refl))
