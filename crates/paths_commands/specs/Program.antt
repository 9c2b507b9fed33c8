-- The whole program, from the arguments after its name to its exit status.
use Rattle.std.specs.Prelude.{◌≡◌, ◌≢◌, ◌⊎◌, ℕ, ◌<◌, Bool, true, false, List, [], ◌∷◌, ◌++◌, Option, Some, Result, Ok, Err, ⊤, IfErr, IsOk, length, take, codes}
use Rattle.std.specs.Io.KnownBytes.{Appends}
use Rattle.std.specs.List.{AllByRecursion}
use Rattle.os_args.specs.Views.{fault_of}
use Rattle.os_args.specs.declared.error.ArgumentError.{ArgumentError}
use Rattle.os_str_bytes.specs.Wasm.{Wasm}
use Rattle.os_str_bytes.specs.WasmPlatform.TheImpl as wasm
use Rattle.platform_str.specs.declared.os_str.OsStr.{OsStr}
use Rattle.list_programs.specs.Arguments.{HasFault, operands_of}
use Rattle.list_programs.specs.Items.{Lacks}
use Rattle.list_programs.specs.ListRun.{Runs}
use Rattle.list_programs.specs.ProgramFault.{EndsRunOf}
use Rattle.list_programs.specs.Rules.{ListRules, passing}
use Rattle.program_frame.specs.Strings.{strings}
use Rattle.program_frame.specs.Written.{AppendsBeginning, WritesText}
use Rattle.program_frame.specs.declared.fault.Failure.TheVariants.{Memory, Read, Write}
use Rattle.list_programs.specs.declared.fault.ListFault.TheVariants.{Run}
use Rattle.list_programs.specs.declared.options.ItemEnd.{ItemEnd}
use Rattle.list_programs.specs.declared.options.ItemEnd.TheVariants.{Nul}
use Rattle.list_programs.specs.declared.options.LastItem.TheVariants.{MustEnd}
use Rattle.list_programs.specs.declared.options.ListOptions.{ListOptions}
use Rattle.list_programs.specs.declared.program_fault.Fault as program_fault
use Rattle.list_programs.specs.declared.program_fault.Fault.TheVariants.{List as OfList, Words}
use Rattle.list_programs.specs.declared.misuse.Misuse as misuse
use Rattle.list_programs.specs.declared.misuse.Misuse.TheVariants.{Argument}
use Rattle.program_frame.specs.declared.os.Os.{Os}
use Rattle.paths_commands.specs.Command.{AreRead, IsRequestFor, IsMisuse, Line, RequestNothing, RequestsNothing, longest_path}
use Rattle.paths_commands.specs.Common.{IsCommonText, IsUncommon}
use Rattle.paths_commands.specs.Fault.{IsOfMisuse}
use Rattle.paths_commands.specs.Options.{has_value, spelled}
use Rattle.path_rules.specs.declared.rules.Style.{Style}
use Rattle.paths_commands.specs.Styles.{style_of}
use Rattle.paths_commands.specs.Task.{rules_of}
use Rattle.paths_commands.specs.declared.command.Command.{Command}
use Rattle.paths_commands.specs.declared.command.Command.TheVariants.{Ask, Help, Version}
use Rattle.paths_commands.specs.declared.fault.CommandFault.{CommandFault}
use Rattle.paths_commands.specs.declared.fault.CommandFault.TheVariants.{PassedOver}
use Rattle.paths_commands.specs.declared.fault.Rejection.{Rejection}
use Rattle.paths_commands.specs.declared.task.Task.{Task}
use Rattle.paths_commands.specs.declared.task.Task.TheVariants.{Common}

-- what keeps the program from its output
abbrev pub Fault : Type 0
Fault = program_fault.Fault Rejection CommandFault

-- what is done: a relation of the bytes that a reader had left and has left, of what a writer held and holds, as far as they are known, and of the result
abbrev pub Doing : Type 1
Doing = Option (List ℕ) → Option (List ℕ) → Option (List ℕ) → Option (List ℕ) → Result ⊤ Fault → Type 0

-- the program ends with this fault before anything is read or written
abbrev pub EndsAtOnce : Fault → Doing
EndsAtOnce fault input left old new answer = (answer ≡ Err fault) × ((left ≡ input) × (new ≡ old))

-- so it ends where memory is refused, or else this is done
abbrev pub UnlessOutOfMemory : Doing → Doing
UnlessOutOfMemory Done input left old new answer = EndsAtOnce (OfList (Run Memory)) input left old new answer ⊎ Done input left old new answer

-- what is done with each path of the platform, in a list that is written so, where this byte ends each result
abbrev pub rules_on : Os → Task → ListOptions → ItemEnd → ListRules Rejection
rules_on os task list end = rules_of (strings os) (style_of os) task list end

-- the result of a run that passed over this number of paths: if it passed over some, that is its fault
abbrev pub IsAfter : ℕ → Result ⊤ Fault → Result ⊤ Fault → Type 0
IsAfter count (Ok done) answer = ((count ≡ 0) × IsOk answer) ⊎ ((0 < count) × (answer ≡ Err (Words (PassedOver count))))
IsAfter count (Err fault) answer = answer ≡ Err fault

-- the run passes over the paths that are rejected, and writes the results of the others, in order. No such path ends it
pub record RunsPast (list : ListRules Rejection) (input left old new : Option (List ℕ)) (answer : Result ⊤ Fault) : Type 0 where
  pub count : ℕ
  pub ran : Result ⊤ Fault
  pub run : Runs (passing count list) OfList input left old new ran
  pub ends : IfErr ran (λ fault. EndsRunOf ⊥ fault)
  pub after : IsAfter count ran answer

-- a text of the program's own that begins so is written, and nothing is read
abbrev pub WritesTextFrom : List ℕ → Doing
WritesTextFrom start input left old new answer =
    (left ≡ input) × ((text : List ℕ) × ((take (length start) text ≡ start) × WritesText text (OfList (Run Write)) old new answer))

-- the task's results for the paths of a list that is written so, where this byte ends each result and paths that are rejected may be passed over
abbrev pub RunsEach : Bool → Os → Task → ListOptions → ItemEnd → Doing
RunsEach false os task list end input left old new answer = Runs (rules_on os task list end) OfList input left old new answer
RunsEach true os task list end input left old new answer = RunsPast (rules_on os task list end) input left old new answer

-- a list of these paths, each ended by NUL
abbrev pub list_text : List (List ℕ) → List ℕ
list_text [] = []
list_text (path ∷ paths) = (path ++ 0 ∷ []) ++ list_text paths

-- these are the paths of a list, each ended by NUL
abbrev pub AreListed : List ℕ → List (List ℕ) → Type 0
AreListed held paths = AllByRecursion (Lacks 0) paths × ((rest : List ℕ) × (Lacks 0 rest × (held ≡ list_text paths ++ rest)))

-- a run with this result has read all paths, some of which it may have passed over
abbrev pub HasReadAll : Result ⊤ Fault → Type 0
HasReadAll (Ok done) = Unit {0}
HasReadAll (Err (OfList why)) = ⊥
HasReadAll (Err (Words why)) = Unit {0}

-- the result where a run over the paths ends early, or memory is refused
abbrev pub EndsEarly : Result ⊤ Fault → Result ⊤ Fault → Type 0
EndsEarly ran answer = (answer ≡ Err (OfList (Run Memory))) ⊎ ((¬ (HasReadAll ran)) × ((ran ≢ Err (OfList (Run Write))) × (answer ≡ ran)))

-- what `common` writes for paths after a run that has read all, and its result
abbrev pub WritesCommon : Style → ItemEnd → List (List ℕ) → Result ⊤ Fault → Option (List ℕ) → Option (List ℕ) → Result ⊤ Fault → Type 0
WritesCommon style end paths ran old new answer =
    ((text : List ℕ) × (IsCommonText style end paths text × (((answer ≡ ran) × Appends old new text) ⊎ ((answer ≡ Err (OfList (Run Write))) × AppendsBeginning old new text))))
    ⊎ ((why : CommandFault) × (IsUncommon style end paths why × ((answer ≡ Err (Words why)) × (new ≡ old))))

-- the common base of the paths that a run accepts. It is written once all are read
abbrev pub RunsCommon : Bool → Os → ListOptions → ItemEnd → Doing
RunsCommon keeps_going os list end input left old new answer =
    (held : List ℕ) × ((ran : Result ⊤ Fault) × (RunsEach keeps_going os Common list Nul input left (Some []) (Some held) ran
    × (((new ≡ old) × EndsEarly ran answer) ⊎ (HasReadAll ran × ((paths : List (List ℕ)) × (AreListed held paths × WritesCommon (style_of os) end paths ran old new answer))))))

-- the result of the command for a list of paths of the platform: what the task writes for each, or their common base
abbrev pub RunsTask : Bool → Os → Task → ListOptions → ItemEnd → Doing
RunsTask keeps_going os task list end input left old new answer =
    ((task ≢ Common) × RunsEach keeps_going os task list end input left old new answer)
    ⊎ ((task ≡ Common) × RunsCommon keeps_going os list end input left old new answer)

-- how such a list is written
abbrev pub of_given : ListOptions
of_given = record { end = Nul; last = MustEnd; max = longest_path }

-- the task's result for the list of these paths, or memory for the list is short
abbrev pub RunsGiven : Bool → Os → Task → ItemEnd → List (List ℕ) → Option (List ℕ) → Option (List ℕ) → Result ⊤ Fault → Type 0
RunsGiven keeps_going os task end paths old new answer =
    ((answer ≡ Err (OfList (Run Memory))) × (new ≡ old))
    ⊎ ((left : Option (List ℕ)) × RunsTask keeps_going os task of_given end (Some (list_text paths)) left old new answer)

-- the result of a run over a list in memory, where this is the result of the run over a reader of it: memory is to blame where that isn't read
abbrev pub IsInMemory : Result ⊤ Fault → Result ⊤ Fault → Type 0
IsInMemory ran answer = ((ran ≢ Err (OfList (Run Read))) × (answer ≡ ran)) ⊎ ((ran ≡ Err (OfList (Run Read))) × (answer ≡ Err (OfList (Run Memory))))

-- the task's result for paths that are given; if none is, for those that are read
abbrev pub RunsOver : List (List ℕ) → Bool → Os → Task → ListOptions → Doing
RunsOver [] keeps_going os task list input left old new answer = RunsTask keeps_going os task list list.end input left old new answer
RunsOver (path ∷ paths) keeps_going os task list input left old new answer = (left ≡ input) × RunsGiven keeps_going os task list.end (path ∷ paths) old new answer

-- what the command does
abbrev pub Does : Command → Doing
Does (Ask task os list keeps_going paths) input left old new answer = RunsOver (operands_of paths.now) keeps_going os task list input left old new answer
Does Help input left old new answer = WritesTextFrom (codes "paths: ") input left old new answer
Does Version input left old new answer = WritesTextFrom (codes "paths ") input left old new answer

-- the options and operands, of which the last come after `--`, request no command, and the run ends at once with what is wrong
abbrev pub RejectsLine : ℕ → Line → Doing
RejectsLine after_end given input left old new answer =
    RequestsNothing after_end given
    × ((wrong : misuse.Misuse) × ((why : CommandFault) × ((IsMisuse after_end given wrong × IsOfMisuse wrong why) × EndsAtOnce (Words why) input left old new answer)))

-- the options and operands request a command, with this result
abbrev pub RunsCommand : ℕ → Line → Doing
RunsCommand after_end given input left old new answer = (command : Command) × (IsRequestFor after_end given command × Does command input left old new answer)

-- the options and operands request a command, which has this result, or none
abbrev pub RunsLine : ℕ → Line → Doing
RunsLine after_end given input left old new answer = RejectsLine after_end given input left old new answer ⊎ RunsCommand after_end given input left old new answer

-- the arguments have a fault, and the run ends at once with the first
abbrev pub RejectsWords : List (List ℕ) → Doing
RejectsWords words input left old new answer = (error : ArgumentError (OsStr Wasm wasm.ghosts)) × ((why : CommandFault) × ((HasFault spelled has_value words (fault_of error) × IsOfMisuse (Argument error) why) × EndsAtOnce (Words why) input left old new answer))

-- the arguments request no command, however they are read, and the run ends at once: they have a fault, or their options and operands request nothing
abbrev pub Rejects : List (List ℕ) → Doing
Rejects words input left old new answer =
    RequestNothing words
    × (RejectsWords words input left old new answer
    ⊎ ((after_end : ℕ) × ((given : Line) × (AreRead words after_end given × RejectsLine after_end given input left old new answer))))

-- the arguments request a command, with this result, or none; an allocation may fail first
abbrev pub RunsTo : List (List ℕ) → Doing
RunsTo words input left old new answer =
    EndsAtOnce (OfList (Run Memory)) input left old new answer
    ⊎ (Rejects words input left old new answer
    ⊎ ((after_end : ℕ) × ((given : Line) × (AreRead words after_end given × RunsCommand after_end given input left old new answer))))
