-- The result of a run over a list in memory.
use Rattle.std.proofs.Common.{◌≡◌, ◌∙◌, inl, inr, ℕ, List, [], ◌∷◌, ◌++◌, Option, Result, Ok, Err, refl, sym, ap, subst, append_assoc}
use Rattle.std.specs.Prelude.{◌⊎◌, Bool, true, false, ⊤, IsOk}
use Rattle.std.specs.Io.KnownBytes.{Appends}
use Rattle.program_frame.specs.Written.{AppendsBeginning}
use Rattle.path_rules.specs.declared.rules.Style.{Style}
use Rattle.list_programs.specs.ListRun.{IsRun, Runs, WritesUpTo, answer_of}
use Rattle.list_programs.specs.Rules.{ListRules, passing}
use Rattle.program_frame.specs.declared.fault.Failure.TheVariants.{Memory, Read, Write}
use Rattle.list_programs.specs.declared.fault.ListFault.{ListFault}
use Rattle.list_programs.specs.declared.fault.ListFault.TheVariants.{Run}
use Rattle.list_programs.specs.declared.options.ItemEnd.{ItemEnd}
use Rattle.list_programs.specs.declared.options.ListOptions.{ListOptions}
use Rattle.list_programs.specs.declared.program_fault.Fault.TheVariants.{List as OfList, Words}
use Rattle.program_frame.specs.declared.os.Os.{Os}
use Rattle.list_programs.proofs.lemmas.Runs.{no_err}
use Rattle.paths_commands.specs.Styles.{style_of}
use Rattle.paths_commands.specs.Program.{AreListed, EndsEarly, Fault, HasReadAll, IsAfter, IsInMemory, RunsEach, RunsPast, RunsTask, WritesCommon, rules_on}
use Rattle.paths_commands.specs.declared.fault.CommandFault.{CommandFault}
use Rattle.paths_commands.specs.declared.fault.Rejection.{Rejection}
use Rattle.paths_commands.specs.declared.task.Task.{Task}

-- a path and its end move from the paths that are left to the list
pub moved : (text path more : List ℕ) → text ++ ((path ++ 0 ∷ []) ++ more) ≡ ((text ++ path) ++ 0 ∷ []) ++ more
moved text path more = sym (append_assoc text (path ++ 0 ∷ []) more) ∙ ap (λ l. l ++ more) (sym (append_assoc text path (0 ∷ [])))

read_apart : ◌≡◌ {A = ListFault Rejection} (Run Read) (Run Write) → ⊥
read_apart e = cc

write_apart : ◌≡◌ {A = Result ⊤ (ListFault Rejection)} (Err (Run Memory)) (Err (Run Write)) → ⊥
write_apart e = cc

not_ok : ◌≡◌ {A = Bool} false true → ⊥
not_ok e = cc

words_apart : (why : CommandFault) → ◌≡◌ {A = Result ⊤ Fault} (Err (Words why)) (Err (OfList (Run Read))) → ⊥
words_apart why e = cc

one_fault : (why : ListFault Rejection) → ◌≡◌ {A = Result ⊤ Fault} (Err (OfList why)) (Err (OfList (Run Read))) → why ≡ Run Read
one_fault why e = cc

module _ (list : ListRules Rejection) (input left old new : Option (List ℕ)) where
  memory_run : (why : ListFault Rejection) → why ≡ Run Read → IsRun list input left old new (Err why) → IsRun list input left old new (Err (Run Memory))
  memory_run why is run = record {
    all_read = tt;
    written = tt;
    stopped = λ other. subst (λ f. WritesUpTo list f input old new) is (run.stopped (λ e. read_apart (sym is ∙ e)));
    beginning = λ e. absurd (write_apart e);
  }

  memory_for : (ran : Result ⊤ Fault) (run : Result ⊤ (ListFault Rejection)) → ran ≡ Err (OfList (Run Read)) → IsRun list input left old new run → ran ≡ answer_of OfList run → IsRun list input left old new (Err (Run Memory))
  memory_for ran (Ok done) is run e = absurd (no_err (sym e ∙ is))
  memory_for ran (Err why) is run e = memory_run why (one_fault why (sym e ∙ is)) run

  memory_runs : (ran answer : Result ⊤ Fault) → ran ≡ Err (OfList (Run Read)) → answer ≡ Err (OfList (Run Memory)) → Runs list OfList input left old new ran → Runs list OfList input left old new answer
  memory_runs ran answer is now r = (Err (Run Memory), (memory_for ran r.0 is r.1.0 r.1.1, now))

module _ (list : ListRules Rejection) (input left old new : Option (List ℕ)) (ran answer : Result ⊤ Fault) (is : ran ≡ Err (OfList (Run Read))) (now : answer ≡ Err (OfList (Run Memory))) where
  past_for : (count : ℕ) (inner : Result ⊤ Fault) → Runs (passing count list) OfList input left old new inner → IsAfter count inner ran → RunsPast list input left old new answer
  past_for count (Ok done) run (inl none) = absurd (not_ok (subst IsOk is none.1))
  past_for count (Ok done) run (inr some) = absurd (words_apart _ (sym some.1 ∙ is))
  past_for count (Err fault) run after = record {
    count = count;
    ran = Err (OfList (Run Memory));
    run = memory_runs (passing count list) input left old new (Err fault) (Err (OfList (Run Memory))) (sym after ∙ is) refl run;
    ends = tt;
    after = now;
  }

  pub memory_past : RunsPast list input left old new ran → RunsPast list input left old new answer
  memory_past r = past_for r.count r.ran r.run r.after

memory_each : (keeps_going : Bool) (os : Os) (task : Task) (list : ListOptions) (end : ItemEnd) (input left old new : Option (List ℕ)) (ran answer : Result ⊤ Fault) → ran ≡ Err (OfList (Run Read)) → answer ≡ Err (OfList (Run Memory))
    → RunsEach keeps_going os task list end input left old new ran → RunsEach keeps_going os task list end input left old new answer
memory_each false os task list end input left old new ran answer is now runs = memory_runs (rules_on os task list end) input left old new ran answer is now runs
memory_each true os task list end input left old new ran answer is now runs = memory_past (rules_on os task list end) input left old new ran answer is now runs

read_no_write : ◌≡◌ {A = Result ⊤ Fault} (Err (OfList (Run Read))) (Err (OfList (Run Write))) → ⊥
read_no_write e = cc

-- a run that has read all doesn't end with a failed read
module _ (style : Style) (end : ItemEnd) (paths : List (List ℕ)) (ran answer : Result ⊤ Fault) (all : HasReadAll ran) (is : answer ≡ Err (OfList (Run Read))) (old new : Option (List ℕ)) where
  not_written : (text : List ℕ) → ((answer ≡ ran) × Appends old new text) ⊎ ((answer ≡ Err (OfList (Run Write))) × AppendsBeginning old new text) → ⊥
  not_written text (inl done) = subst HasReadAll (sym done.0 ∙ is) all
  not_written text (inr cut) = read_no_write (sym is ∙ cut.0)

  no_failed_read : WritesCommon style end paths ran old new answer → ⊥
  no_failed_read (inl made) = not_written made.0 made.1.1
  no_failed_read (inr none) = words_apart none.0 (sym none.1.1.0 ∙ is)

module _ (style : Style) (end : ItemEnd) (held : List ℕ) (old new : Option (List ℕ)) (inner ran answer : Result ⊤ Fault) (is : ran ≡ Err (OfList (Run Read))) (now : answer ≡ Err (OfList (Run Memory))) where
  memory_after : ((new ≡ old) × EndsEarly inner ran) ⊎ (HasReadAll inner × ((paths : List (List ℕ)) × (AreListed held paths × WritesCommon style end paths inner old new ran)))
      → ((new ≡ old) × EndsEarly inner answer) ⊎ (HasReadAll inner × ((paths : List (List ℕ)) × (AreListed held paths × WritesCommon style end paths inner old new answer)))
  memory_after (inl early) = inl (early.0, inl now)
  memory_after (inr all) = absurd (no_failed_read style end all.1.0 inner ran all.0 is old new all.1.1.1)

pub memory_task : (keeps_going : Bool) (os : Os) (task : Task) (list : ListOptions) (end : ItemEnd) (input left old new : Option (List ℕ)) (ran answer : Result ⊤ Fault) → IsInMemory ran answer
    → RunsTask keeps_going os task list end input left old new ran → RunsTask keeps_going os task list end input left old new answer
memory_task keeps_going os task list end input left old new ran answer (inl is) runs = subst (RunsTask keeps_going os task list end input left old new) (sym is.1) runs
memory_task keeps_going os task list end input left old new ran answer (inr is) (inl each) = inl (each.0, memory_each keeps_going os task list end input left old new ran answer is.0 is.1 each.1)
memory_task keeps_going os task list end input left old new ran answer (inr is) (inr common) =
    let run = common.1 in
    inr (common.0, (run.0, (run.1.0, (run.1.1.0, memory_after (style_of os) end run.0 old new run.1.0 ran answer is.0 is.1 run.1.1.1))))
