-- What the program `paths` reads where paths are given.
use Rattle.std.proofs.Common.{◌≡◌, inl, inr, ℕ, List, [], ◌∷◌, Option, Result, refl}
use Rattle.std.specs.Prelude.{⊤, Bool}
use Rattle.list_programs.specs.Arguments.{operands_of}
use Rattle.list_programs.specs.declared.options.ListOptions.{ListOptions}
use Rattle.program_frame.specs.declared.os.Os.{Os}
use Rattle.paths_commands.specs.Program.{Does, Fault, RunsOver, RunsTo}
use Rattle.paths_commands.specs.declared.command.Command.{Command}
use Rattle.paths_commands.specs.declared.command.Command.TheVariants.{Ask, Help, Version}
use Rattle.paths_commands.specs.declared.task.Task.{Task}
use Rattle.test_command_uses.specs.Requests.{GivesPaths, HasPaths}

module _ (input left old new : Option (List ℕ)) (answer : Result ⊤ Fault) where
  over_unread : (paths : List (List ℕ)) (keeps_going : Bool) (os : Os) (task : Task) (list : ListOptions) → (paths ≡ [] → ⊥) → RunsOver paths keeps_going os task list input left old new answer → left ≡ input
  over_unread [] keeps_going os task list some runs = absurd (some refl)
  over_unread (path ∷ paths) keeps_going os task list some runs = runs.0

  does_unread : (command : Command) → HasPaths command → Does command input left old new answer → left ≡ input
  does_unread (Ask task os list keeps_going paths) some does = over_unread (operands_of paths.now) keeps_going os task list some does
  does_unread Help some does = does.0
  does_unread Version some does = does.0

  pub runs_unread : (words : List (List ℕ)) → GivesPaths words → RunsTo words input left old new answer → left ≡ input
  runs_unread words gives (inl memory) = memory.1.0
  runs_unread words gives (inr (inl (none, inl faulty))) = faulty.1.1.1.1.0
  runs_unread words gives (inr (inl (none, inr rejected))) = rejected.1.1.1.1.1.1.1.1.0
  runs_unread words gives (inr (inr runs)) = does_unread runs.1.1.1.0 (gives runs.0 runs.1.0 runs.1.1.1.0 runs.1.1.0 runs.1.1.1.1.0) runs.1.1.1.1.1
