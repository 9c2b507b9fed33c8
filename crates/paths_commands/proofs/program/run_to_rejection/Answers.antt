use Rattle.program_frame.specs.Marked.{marked_inner}
use Rattle.list_programs.specs.declared.program_fault.Fault.TheVariants.{List as OfList}
use Rattle.list_programs.proofs.lemmas.Passing.{none_runs}
use Rattle.paths_commands.specs.Program.{rules_on}
use Rattle.paths_commands.proofs.program.run_to_rejection.Goals as goal

pub returns-clause-run : goal.returns-clause-run
returns-clause-run g c = none_runs (rules_on c.args.os c.args.task c.args.list c.args.end) OfList (g.R.Read.remaining (marked_inner c.args.reader.now)) (g.R.Read.remaining (marked_inner c.run_on.new.reader)) (g.W.Write.contents (marked_inner c.args.writer.now)) (g.W.Write.contents (marked_inner c.run_on.new.writer)) c.run_on.result c.run_on.ensures.run
