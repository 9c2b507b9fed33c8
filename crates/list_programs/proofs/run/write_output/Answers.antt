use Rattle.std.proofs.Common.{refl, sym, ◌∙◌}
use Rattle.std.proofs.lemmas.Bool.{false≢true}
use Rattle.list_programs.proofs.lemmas.Runs.{no_err, write_no_read}
use Rattle.list_programs.proofs.run.write_output.Goals as goal

pub returns-in-Ok : goal.returns-in-Ok
returns-in-Ok g c = record {
  some = c.wrote_some.ensures;
  written = c.in-Ok.ensures.written;
  fault = tt;
  beginning = λ e. absurd (no_err e);
  no_read = λ e. no_err e;
  marked = (λ e. absurd (no_err e), λ set. absurd (false≢true (sym c.in-Ok.ensures.unmarked ∙ set)));
  ends = tt;
}

pub returns-in-Err : goal.returns-in-Err
returns-in-Err g c = record {
  some = tt;
  written = tt;
  fault = refl;
  beginning = λ _. c.in-Err.ensures.beginning;
  no_read = λ e. write_no_read e;
  marked = (λ _. c.in-Err.ensures.marked, λ _. refl);
  ends = tt;
}
