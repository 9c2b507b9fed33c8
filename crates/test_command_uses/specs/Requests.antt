-- What the program `paths` does with arguments that request a command.
use Rattle.std.specs.Prelude.{◌≡◌, ◌≢◌, ◌⊎◌, ℕ, List, [], Option, Err}
use Rattle.std.specs.Io.KnownBytes.{Appends}
use Rattle.list_programs.specs.Arguments.{operands_of}
use Rattle.program_frame.specs.declared.fault.Failure.TheVariants.{Memory}
use Rattle.list_programs.specs.declared.fault.ListFault.TheVariants.{Run}
use Rattle.list_programs.specs.declared.options.ItemEnd.TheVariants.{Nul}
use Rattle.list_programs.specs.declared.program_fault.Fault.TheVariants.{List as OfList}
use Rattle.program_frame.specs.declared.os.Os.{Os}
use Rattle.paths_commands.specs.Command.{AreRead, IsRequestFor, Line}
use Rattle.paths_commands.specs.Common.{IsCommonText}
use Rattle.paths_commands.specs.Program.{Doing, RunsCommand}
use Rattle.paths_commands.specs.Styles.{style_of}
use Rattle.paths_commands.specs.declared.command.Command.{Command}
use Rattle.paths_commands.specs.declared.command.Command.TheVariants.{Ask, Help, Version}
use Rattle.paths_commands.specs.declared.task.Task.TheVariants.{Common}

-- the arguments are options and operands that request a command
abbrev pub RequestsSome : List (List ℕ) → Type 0
RequestsSome words = (after_end : ℕ) × ((given : Line) × (AreRead words after_end given × ((command : Command) × IsRequestFor after_end given command)))

-- such a command has this result, or memory is refused
abbrev pub RunsSome : List (List ℕ) → Doing
RunsSome words input left old new answer =
    (answer ≡ Err (OfList (Run Memory)))
    ⊎ ((after_end : ℕ) × ((given : Line) × (AreRead words after_end given × RunsCommand after_end given input left old new answer)))

-- a command that is requested runs over paths that are given
abbrev pub HasPaths : Command → Type 0
HasPaths (Ask task os list keeps_going paths) = operands_of paths.now ≢ []
HasPaths Help = Unit {0}
HasPaths Version = Unit {0}

-- each command that the arguments request does
abbrev pub GivesPaths : List (List ℕ) → Type 0
GivesPaths words = (after_end : ℕ) (given : Line) (command : Command) → AreRead words after_end given → IsRequestFor after_end given command → HasPaths command

-- a command that is requested prints the common base of paths of this platform that are read, ended by NUL
abbrev pub IsCommonOn : Os → Command → Type 0
IsCommonOn os (Ask task on list keeps_going paths) = (task ≡ Common) × ((on ≡ os) × ((list.end ≡ Nul) × (operands_of paths.now ≡ [])))
IsCommonOn os Help = ⊥
IsCommonOn os Version = ⊥

-- each command that the arguments request does
abbrev pub AsksCommon : Os → List (List ℕ) → Type 0
AsksCommon os words = (after_end : ℕ) (given : Line) (command : Command) → AreRead words after_end given → IsRequestFor after_end given command → IsCommonOn os command

-- the common base of some paths was written
abbrev pub WritesBase : Os → Option (List ℕ) → Option (List ℕ) → Type 0
WritesBase os old new = (paths : List (List ℕ)) × ((text : List ℕ) × (IsCommonText (style_of os) Nul paths text × Appends old new text))
