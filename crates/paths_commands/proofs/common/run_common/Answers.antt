use Rattle.std.proofs.Common.{rules, ◌≡◌, [], Err, Some}
use Rattle.program_frame.specs.Marked.{has_failed, marked_inner}
use Rattle.list_programs.specs.declared.fault.ListFault.TheVariants.{Run}
use Rattle.list_programs.specs.declared.options.ItemEnd.TheVariants.{Nul}
use Rattle.list_programs.specs.declared.program_fault.Fault.TheVariants.{List as OfList}
use Rattle.program_frame.specs.declared.fault.Failure.TheVariants.{Read}
use Rattle.paths_commands.specs.Program.{EndsEarly, HasReadAll, RunsEach}
use Rattle.paths_commands.specs.declared.task.Task.TheVariants.{Common}
use Rattle.paths_commands.proofs.lemmas.Commons.{after_all, early_blames}
use Rattle.paths_commands.proofs.common.run_common.Goals as goal

pub returns-in_err-ran-clause-ends : goal.returns-in_err-ran-clause-ends
returns-in_err-ran-clause-ends g c =
    let ran = c.run_each-ran.result in
    let answer = c.from_residual.result in
    let early : EndsEarly ran answer = search rules in
    let same : (ran ≡ Err (OfList (Run Read))) → (answer ≡ Err (OfList (Run Read))) = search rules in
    early_blames ran answer (has_failed c.run_each-ran.new.reader) (has_failed c.run_each-ran.new.writer) (has_failed c.args.writer.now) early same c.run_each-ran.ensures.ends c.requires.writer_unmarked

pub returns-clause-run : goal.returns-clause-run
returns-clause-run g c =
    let input = g.R.Read.remaining (marked_inner c.args.reader.now) in
    let left = g.R.Read.remaining (marked_inner c.run_each-ran.new.reader) in
    let old = g.W.Write.contents (marked_inner c.args.writer.now) in
    let new = g.W.Write.contents (marked_inner c.write_common.new.writer) in
    let held = c.deref.result.now in
    let each : RunsEach c.args.keeps_going c.args.os Common c.args.list Nul input left (Some []) (Some held) c.run_each-ran.result = search rules in
    let all : HasReadAll c.run_each-ran.result × (c.in_ok-ran.ran ≡ c.run_each-ran.result) = search rules in
    after_all c.args.keeps_going c.args.os c.args.list c.args.end input left old new held c.run_each-ran.result c.in_ok-ran.ran c.write_common.result each all c.write_common.ensures.run
