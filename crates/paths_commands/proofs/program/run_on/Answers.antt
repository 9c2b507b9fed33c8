use Rattle.std.proofs.Common.{◌≡◌, ℕ, List, Option, sym, subst}
use Rattle.std.specs.Prelude.{Result, ⊤}
use Rattle.program_frame.specs.Marked.{marked_inner}
use Rattle.list_programs.specs.Rules.{passing}
use Rattle.program_frame.specs.Strings.{strings}
use Rattle.list_programs.specs.ListRun.{Runs}
use Rattle.list_programs.specs.declared.options.ItemEnd.{ItemEnd}
use Rattle.list_programs.specs.declared.options.ListOptions.{ListOptions}
use Rattle.program_frame.specs.declared.os.Os.{Os}
use Rattle.list_programs.specs.declared.program_fault.Fault.TheVariants.{List as OfList}
use Rattle.paths_commands.specs.Styles.{style_of}
use Rattle.paths_commands.specs.Program.{Fault}
use Rattle.paths_commands.specs.Task.{rules_of}
use Rattle.paths_commands.specs.declared.task.Task.{Task}
use Rattle.paths_commands.proofs.program.run_on.Goals as goal

-- what holds of a platform, a task and a list holds of equal ones
same_run : (os other : Os) (t task : Task) (l list : ListOptions) (b end : ItemEnd) (count : ℕ) (input left old new : Option (List ℕ)) (answer : Result ⊤ Fault) → os ≡ other → t ≡ task → l ≡ list → b ≡ end
    → Runs (passing count (rules_of (strings other) (style_of other) t l b)) OfList input left old new answer → Runs (passing count (rules_of (strings os) (style_of os) task list end)) OfList input left old new answer
same_run os other t task l list b end count input left old new answer is same written by ran =
    subst (λ os. Runs (passing count (rules_of (strings os) (style_of os) task list end)) OfList input left old new answer) (sym is)
    (subst (λ l. Runs (passing count (rules_of (strings other) (style_of other) task l end)) OfList input left old new answer) written
    (subst (λ t. Runs (passing count (rules_of (strings other) (style_of other) t l end)) OfList input left old new answer) same
    (subst (λ b. Runs (passing count (rules_of (strings other) (style_of other) t l b)) OfList input left old new answer) by ran)))

pub returns-in-Unix-clause-run : goal.returns-in-Unix-clause-run
returns-in-Unix-clause-run g c =
    same_run _ _ _ _ _ _ _ _ _ (g.R.Read.remaining (marked_inner c.args.reader.now)) (g.R.Read.remaining (marked_inner c.run_list_with.new.reader)) (g.W.Write.contents (marked_inner c.args.writer.now)) (g.W.Write.contents (marked_inner c.run_list_with.new.writer)) c.run_list_with.result c.in-Unix.is c.ended.ensures.task c.ended.ensures.list c.ended.ensures.end c.run_list_with.ensures.run

pub returns-in-Windows-clause-run : goal.returns-in-Windows-clause-run
returns-in-Windows-clause-run g c =
    same_run _ _ _ _ _ _ _ _ _ (g.R.Read.remaining (marked_inner c.args.reader.now)) (g.R.Read.remaining (marked_inner c.run_list_with-in-Windows.new.reader)) (g.W.Write.contents (marked_inner c.args.writer.now)) (g.W.Write.contents (marked_inner c.run_list_with-in-Windows.new.writer)) c.run_list_with-in-Windows.result c.in-Windows.is c.ended-in-Windows.ensures.task c.ended-in-Windows.ensures.list c.ended-in-Windows.ensures.end c.run_list_with-in-Windows.ensures.run

pub returns-in-Wasm-clause-run : goal.returns-in-Wasm-clause-run
returns-in-Wasm-clause-run g c =
    same_run _ _ _ _ _ _ _ _ _ (g.R.Read.remaining (marked_inner c.args.reader.now)) (g.R.Read.remaining (marked_inner c.run_list_with-in-Wasm.new.reader)) (g.W.Write.contents (marked_inner c.args.writer.now)) (g.W.Write.contents (marked_inner c.run_list_with-in-Wasm.new.writer)) c.run_list_with-in-Wasm.result c.in-Wasm.is c.ended-in-Wasm.ensures.task c.ended-in-Wasm.ensures.list c.ended-in-Wasm.ensures.end c.run_list_with-in-Wasm.ensures.run
