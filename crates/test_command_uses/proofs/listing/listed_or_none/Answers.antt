use Rattle.program_frame.specs.Marked.{marked_inner}
use Rattle.list_programs.specs.declared.program_fault.Fault.TheVariants.{List as OfList, Words}
use Rattle.names_commands.specs.declared.fault.CommandFault.TheVariants.{NoOutput}
use Rattle.test_command_uses.proofs.EndedRuns.{none_written, some_written}
use Rattle.test_command_uses.proofs.listing.listed_or_none.Goals as goal

pub returns-clause-some : goal.returns-clause-some
returns-clause-some g c = some_written (Words NoOutput) (g.W.Write.contents (marked_inner c.args.writer.now)) (g.W.Write.contents (marked_inner c.run_list.new.writer)) c.run_list.ensures.run.0 c.run_list.result c.run_list.ensures.run.1.1

pub returns-clause-none : goal.returns-clause-none
returns-clause-none g c = none_written (Words NoOutput) (g.W.Write.contents (marked_inner c.args.writer.now)) (g.W.Write.contents (marked_inner c.run_list.new.writer)) _ OfList (λ why e. cc) _ _ c.run_list.ensures.run.0 c.run_list.result c.run_list.ensures.run.1.0 c.run_list.ensures.run.1.1
