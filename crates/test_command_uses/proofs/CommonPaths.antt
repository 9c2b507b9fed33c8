-- What the program `paths` writes where the common base of paths is requested.
use Rattle.std.proofs.Common.{◌≡◌, ◌⊎◌, ◌∙◌, inl, inr, ℕ, List, [], ◌∷◌, Option, Result, Ok, Err, sym, subst}
use Rattle.std.specs.Prelude.{⊤, Bool, OnOk}
use Rattle.list_programs.specs.Arguments.{operands_of}
use Rattle.list_programs.specs.declared.options.ItemEnd.TheVariants.{Nul}
use Rattle.list_programs.specs.declared.options.ListOptions.{ListOptions}
use Rattle.program_frame.specs.declared.os.Os.{Os}
use Rattle.paths_commands.specs.Program.{Does, Fault, HasReadAll, RunsCommon, RunsOver, RunsTo, WritesCommon}
use Rattle.paths_commands.specs.Styles.{style_of}
use Rattle.paths_commands.specs.declared.command.Command.{Command}
use Rattle.paths_commands.specs.declared.command.Command.TheVariants.{Ask, Help, Version}
use Rattle.paths_commands.specs.declared.task.Task.{Task}
use Rattle.paths_commands.specs.declared.task.Task.TheVariants.{Common}
use Rattle.test_command_uses.specs.Requests.{AsksCommon, IsCommonOn, WritesBase}

no_err : {done : ⊤} {fault : Fault} → ◌≡◌ {A = Result ⊤ Fault} (Ok done) (Err fault) → ⊥
no_err e = cc

some_none : {path : List ℕ} {paths : List (List ℕ)} → path ∷ paths ≡ [] → ⊥
some_none e = cc

module _ (os : Os) (input left old new : Option (List ℕ)) (done : ⊤) where
  of_written : (paths : List (List ℕ)) (ran : Result ⊤ Fault) → WritesCommon (style_of os) Nul paths ran old new (Ok done) → WritesBase os old new
  of_written paths ran (inl (text, (is, inl whole))) = (paths, (text, (is, whole.1)))
  of_written paths ran (inl (text, (is, inr cut))) = absurd (no_err cut.0)
  of_written paths ran (inr none) = absurd (no_err none.1.1.0)

  of_common : (keeps_going : Bool) (list : ListOptions) → RunsCommon keeps_going os list Nul input left old new (Ok done) → WritesBase os old new
  of_common keeps_going list (held, (ran, (each, inl (same, inl memory)))) = absurd (no_err memory)
  of_common keeps_going list (held, (ran, (each, inl (same, inr early)))) = absurd (early.0 (subst HasReadAll early.1.1 tt))
  of_common keeps_going list (held, (ran, (each, inr (all, (paths, (listed, writes)))))) = of_written paths ran writes

  of_over : (paths : List (List ℕ)) (keeps_going : Bool) (on : Os) (task : Task) (list : ListOptions) → task ≡ Common → on ≡ os → list.end ≡ Nul → paths ≡ [] → RunsOver paths keeps_going on task list input left old new (Ok done) → WritesBase os old new
  of_over [] keeps_going on task list is here nul none (inl each) = absurd (each.0 is)
  of_over [] keeps_going on task list is here nul none (inr common) =
      of_common keeps_going list
      (subst (λ os. RunsCommon keeps_going os list Nul input left old new (Ok done)) here
      (subst (λ end. RunsCommon keeps_going on list end input left old new (Ok done)) nul common.1))
  of_over (path ∷ paths) keeps_going on task list is here nul none runs = absurd (some_none none)

  of_command : (command : Command) → IsCommonOn os command → Does command input left old new (Ok done) → WritesBase os old new
  of_command (Ask task on list keeps_going paths) is does = of_over (operands_of paths.now) keeps_going on task list is.0 is.1.0 is.1.1.0 is.1.1.1 does
  of_command Help is does = absurd is
  of_command Version is does = absurd is

pub base_written : (os : Os) (words : List (List ℕ)) (input left old new : Option (List ℕ)) (answer : Result ⊤ Fault) → AsksCommon os words → RunsTo words input left old new answer → OnOk answer (WritesBase os old new)
base_written os words input left old new (Err fault) asks runs = tt
base_written os words input left old new (Ok done) asks (inl memory) = absurd (no_err memory.0)
base_written os words input left old new (Ok done) asks (inr (inl (none, inl faulty))) = absurd (no_err faulty.1.1.1.0)
base_written os words input left old new (Ok done) asks (inr (inl (none, inr rejected))) = absurd (no_err rejected.1.1.1.1.1.1.1.0)
base_written os words input left old new (Ok done) asks (inr (inr runs)) = of_command os input left old new done runs.1.1.1.0 (asks runs.0 runs.1.0 runs.1.1.1.0 runs.1.1.0 runs.1.1.1.1.0) runs.1.1.1.1.1

pub base_at_end : {X Y : Type 0} {fault : Fault} (os : Os) (words : List (List ℕ)) (input left old new : Option (List ℕ)) (outcome answer : Result ⊤ Fault) → answer ≡ outcome → AsksCommon os words → ((outcome ≡ Err fault) × X) ⊎ (RunsTo words input left old new outcome × Y) → OnOk answer (WritesBase os old new)
base_at_end os words input left old new outcome (Err why) is asks runs = tt
base_at_end os words input left old new outcome (Ok done) is asks (inl memory) = absurd (no_err (is ∙ memory.0))
base_at_end os words input left old new outcome (Ok done) is asks (inr runs) = base_written os words input left old new (Ok done) asks (subst (RunsTo words input left old new) (sym is) runs.0)
