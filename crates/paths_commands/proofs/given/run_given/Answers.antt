use Rattle.std.proofs.Common.{inr}
use Rattle.paths_commands.proofs.lemmas.InMemory.{memory_task}
use Rattle.paths_commands.proofs.given.run_given.Goals as goal

pub returns-clause-run : goal.returns-clause-run
returns-clause-run g c =
    let runs = rw (c.new-list.ensures, c.new-reader.ensures.inner, c.as_slice.ensures.value, c.in_ok-text.ensures) at c.run_task-ran.ensures.run in
    inr (_, memory_task c.args.keeps_going c.args.os c.args.task _ c.args.end _ _ _ _ c.run_task-ran.result c.in_memory.result c.in_memory.ensures runs)
