use Rattle.std.proofs.Common.{subst}
use Rattle.program_frame.specs.Marked.{has_failed}
use Rattle.paths_commands.specs.Program.{IsAfter}
use Rattle.paths_commands.proofs.lemmas.After.{after_blames}
use Rattle.paths_commands.proofs.program.run_past.Goals as goal

pub returns-clause-run : goal.returns-clause-run
returns-clause-run g c = record {
  count = c.run_on-ran.new.rejections.count;
  ran = c.run_on-ran.result;
  run = c.run_on-ran.ensures.run;
  ends = c.run_on-ran.ensures.stops;
  after = subst (λ n. IsAfter n c.run_on-ran.result c.after.result) c.count.ensures c.after.ensures;
}

pub returns-clause-ends : goal.returns-clause-ends
returns-clause-ends g c = after_blames c.count.result c.run_on-ran.result c.after.result (has_failed c.run_on-ran.new.reader) (has_failed c.run_on-ran.new.writer) c.after.ensures c.run_on-ran.ensures.ends
