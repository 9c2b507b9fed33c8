-- What the options and operands of the command line request.
use Rattle.std.specs.Prelude.{◌≡◌, ◌≢◌, ◌↔◌, ◌⊎◌, ℕ, ◌≤◌, Bool, true, List, [], ◌∷◌, ◌++◌, codes, length}
use Rattle.os_args.specs.Reading.{UnexpectedArgument}
use Rattle.os_args.specs.Views.{fault_of}
use Rattle.os_args.specs.Word.{Value}
use Rattle.list_programs.specs.Arguments.{AreGiven, HasOption, operands_of}
use Rattle.list_programs.specs.ListOptions.{AreStated}
use Rattle.program_frame.specs.Os.{os_word}
use Rattle.list_programs.specs.declared.arguments.Given.{Given}
use Rattle.list_programs.specs.declared.misuse.Misuse.{Misuse}
use Rattle.list_programs.specs.declared.misuse.Misuse.TheVariants.{Argument, Missing, Invalid, Misplaced}
use Rattle.program_frame.specs.declared.os.Os.{Os}
use Rattle.program_frame.specs.declared.os.Os.TheVariants.{Unix}
use Rattle.path_building.specs.BaseViews.{base_style}
use Rattle.path_building.specs.Faults.{IsBaseFault}
use Rattle.path_building.specs.declared.base.BaseError.{BaseError}
use Rattle.path_building.specs.declared.base.BaseError.TheVariants as base_error
use Rattle.path_rules.specs.Name.{IsExtensionText}
use Rattle.path_rules.specs.Root.{IsAbsolute}
use Rattle.path_rules.specs.declared.rules.Style.{Style}
use Rattle.paths_commands.specs.Options.{has_value, spelled}
use Rattle.paths_commands.specs.Styles.{style_of}
use Rattle.paths_commands.specs.Task.{IsChecked, KeepsSeparator, name_of, name_word, operands_of_task}
use Rattle.paths_commands.specs.declared.command.Command.{Command}
use Rattle.paths_commands.specs.declared.command.Command.TheVariants.{Ask, Help, Version}
use Rattle.paths_commands.specs.declared.command.Name.{Name}
use Rattle.paths_commands.specs.declared.command.Name.TheVariants as task_name
use Rattle.paths_commands.specs.declared.option.PathsOption.{PathsOption}
use Rattle.paths_commands.specs.declared.option.PathsOption.TheVariants as option
use Rattle.paths_commands.specs.declared.task.Task.{Task}
use Rattle.paths_commands.specs.declared.task.Task.TheVariants.{Components, Common, Parent, Name as LastName, Stem, Extension, WithExtension, Normalize, Clean, StartsWith, Join, JoinChecked, Relative, Absolute, Convert}

-- options and operands, as they were given
abbrev pub Line : Type 0
Line = List (Given PathsOption)

-- neither help nor the version is requested
abbrev pub IsOfPaths : Line → Type 0
IsOfPaths given = (¬ (HasOption option.Help given)) × (¬ (HasOption option.Version given))

-- this number of arguments comes after the first `--`, which ends the options, since no option takes a value
abbrev pub AreAfterEnd : List (List ℕ) → ℕ → Type 0
AreAfterEnd [] count = count ≡ 0
AreAfterEnd (word ∷ words) count = ((word ≡ codes "--") × (count ≡ length words)) ⊎ ((word ≢ codes "--") × AreAfterEnd words count)

-- the task's operand is valid by these rules: a base or an extension that was tested follows them, and a directory is absolute
abbrev pub HasStyle : Style → Task → Type 0
HasStyle style Components = Unit {0}
HasStyle style Common = Unit {0}
HasStyle style Parent = Unit {0}
HasStyle style LastName = Unit {0}
HasStyle style Stem = Unit {0}
HasStyle style Extension = Unit {0}
HasStyle style (WithExtension extension) = extension.style ≡ style
HasStyle style Normalize = Unit {0}
HasStyle style Clean = Unit {0}
HasStyle style (StartsWith base) = Unit {0}
HasStyle style (Join base) = Unit {0}
HasStyle style (JoinChecked base keeps) = base_style base ≡ style
HasStyle style (Relative base) = Unit {0}
HasStyle style (Absolute directory) = IsAbsolute style directory.now
HasStyle style (Convert to) = Unit {0}

-- the task has this name, is checked and keeps separators where that is requested, and has these operands; the operand is valid on this platform
abbrev pub IsTaskOf : Name → Bool → Bool → Os → List (List ℕ) → Task → Type 0
IsTaskOf name is_checked keeps os operands task =
    (name_of task ≡ name)
    × ((IsChecked task ↔ (is_checked ≡ true)) × ((KeepsSeparator task ↔ (keeps ≡ true)) × (HasStyle (style_of os) task × (operands ≡ operands_of_task task))))

-- the task of this name needs an operand, which is called this
abbrev pub Needs : Name → List ℕ → Type 0
Needs task_name.Components what = ⊥
Needs task_name.Common what = ⊥
Needs task_name.Parent what = ⊥
Needs task_name.Name what = ⊥
Needs task_name.Stem what = ⊥
Needs task_name.Extension what = ⊥
Needs task_name.WithExtension what = what ≡ codes "EXT"
Needs task_name.Normalize what = ⊥
Needs task_name.Clean what = ⊥
Needs task_name.StartsWith what = what ≡ codes "BASE"
Needs task_name.Join what = what ≡ codes "BASE"
Needs task_name.Relative what = what ≡ codes "BASE"
Needs task_name.Absolute what = what ≡ codes "DIR"
Needs task_name.Convert what = what ≡ codes "platform to convert to"

-- how many operands the task of this name needs
abbrev pub needed_count : Name → ℕ
needed_count task_name.Components = 0
needed_count task_name.Common = 0
needed_count task_name.Parent = 0
needed_count task_name.Name = 0
needed_count task_name.Stem = 0
needed_count task_name.Extension = 0
needed_count task_name.WithExtension = 1
needed_count task_name.Normalize = 0
needed_count task_name.Clean = 0
needed_count task_name.StartsWith = 1
needed_count task_name.Join = 1
needed_count task_name.Relative = 1
needed_count task_name.Absolute = 1
needed_count task_name.Convert = 1

-- the description of a base, with the reason why one is invalid
abbrev pub base_word : BaseError → List ℕ
base_word (base_error.Nul index) = codes "BASE (NUL)"
base_word base_error.Incomplete = codes "BASE (incomplete prefix)"
base_word base_error.Reserved = codes "BASE (reserved name)"

-- the error for an operand too many
abbrev pub IsSurplus : List ℕ → Misuse → Type 0
IsSurplus word (Argument error) = fault_of error ≡ UnexpectedArgument (Value word)
IsSurplus word (Missing what) = ⊥
IsSurplus word (Invalid what other) = ⊥
IsSurplus word (Misplaced option where_to) = ⊥

-- how many bytes a path may have
abbrev pub longest_path : ℕ
longest_path = 1048576

-- the argument is given, and is an option of `join`
abbrev pub IsOfJoin : Line → List ℕ → Type 0
IsOfJoin given word =
    ((word ≡ codes "--checked") × HasOption option.Checked given)
    ⊎ ((word ≡ codes "--keep-separator") × HasOption option.KeepSeparator given)

-- where the last operands, this number of them, come after `--`:
module _ (after_end : ℕ) where
  -- The first of the words after the name of a task isn't read as a platform: it isn't one, or all of them come after `--` and the name doesn't
  abbrev pub HasNoPlatform : List (List ℕ) → Type 0
  HasNoPlatform [] = Unit {0}
  HasNoPlatform (word ∷ more) = ((os : Os) → word ≢ os_word os) ⊎ (length (word ∷ more) ≡ after_end)

  -- the operands are the name of a task, a platform, which is Unix if none is given, and these
  abbrev pub HasOperands : Line → Name → Os → List (List ℕ) → Type 0
  HasOperands given name os more =
      ((operands_of given ≡ name_word name ∷ os_word os ∷ more) × (length (os_word os ∷ more) ≢ after_end))
      ⊎ ((operands_of given ≡ name_word name ∷ more) × ((os ≡ Unix) × HasNoPlatform more))

  -- `--keep-separator` is given for `join`, and `--checked` isn't
  abbrev pub LacksChecked : Line → Type 0
  LacksChecked given =
      (HasOption option.KeepSeparator given × (¬ (HasOption option.Checked given)))
      × ((os : Os) × ((more : List (List ℕ)) × HasOperands given task_name.Join os more))

  -- what is missing: a command, the operand that the task needs, or the option without which there is no other
  abbrev pub IsMissing : Line → List ℕ → Type 0
  IsMissing given what =
      ((what ≡ codes "command") × (operands_of given ≡ []))
      ⊎ (((what ≡ codes "--checked") × LacksChecked given)
      ⊎ ((name : Name) × ((os : Os) × (HasOperands given name os [] × Needs name what))))

  -- the operands are the name of this task, a platform, the one operand that the task needs, and paths that come after `--`
  abbrev pub HasOneOperand : Line → Name → Os → List ℕ → Type 0
  HasOneOperand given name os word = (paths : List (List ℕ)) × (HasOperands given name os (word ∷ paths) × (length paths ≤ after_end))

  -- the word is no base on the platform, for this reason, and `join --checked` wants one
  abbrev pub IsNoBase : Line → List ℕ → List ℕ → Type 0
  IsNoBase given what word = (error : BaseError) × ((what ≡ base_word error) × (HasOption option.Checked given
      × ((os : Os) × (HasOneOperand given task_name.Join os word × IsBaseFault (style_of os) word error))))

  -- the word is no absolute path of the platform, and `absolute` wants one
  abbrev pub IsNoDirectory : Line → List ℕ → List ℕ → Type 0
  IsNoDirectory given what word = (what ≡ codes "DIR (not absolute)") × ((os : Os) × (HasOneOperand given task_name.Absolute os word × (¬ (IsAbsolute (style_of os) word))))

  -- the word is no extension on the platform, and `with-extension` wants one
  abbrev pub IsNoExtension : Line → List ℕ → List ℕ → Type 0
  IsNoExtension given what word = (what ≡ codes "EXT (has a separator)") × ((os : Os) × (HasOneOperand given task_name.WithExtension os word × (¬ (IsExtensionText (style_of os) word))))

  -- the word is no platform, and `convert` wants one
  abbrev pub IsNoTarget : Line → List ℕ → List ℕ → Type 0
  IsNoTarget given what word = (what ≡ codes "platform") × ((os : Os) × (HasOneOperand given task_name.Convert os word × ((to : Os) → word ≢ os_word to)))

  -- which word is no command, no platform, no base, no directory or no extension
  abbrev pub IsInvalid : Line → List ℕ → List ℕ → Type 0
  IsInvalid given what word =
      ((what ≡ codes "command") × (((name : Name) → word ≢ name_word name) × ((more : List (List ℕ)) × (operands_of given ≡ word ∷ more))))
      ⊎ (IsNoTarget given what word ⊎ (IsNoBase given what word ⊎ (IsNoDirectory given what word ⊎ IsNoExtension given what word)))

  -- such an option is given, and isn't for the task that is named
  abbrev pub IsMisplaced : Line → List ℕ → List ℕ → Type 0
  IsMisplaced given word where_to =
      IsOfJoin given word
      × ((name : Name) × ((os : Os) × ((more : List (List ℕ)) × (HasOperands given name os more × ((where_to ≡ name_word name) × (name ≢ task_name.Join))))))

  -- an operand is one too many: it is after those that the task needs, and before `--`
  pub record IsTooMany (given : Line) (word : List ℕ) : Type 0 where
    pub name : Name
    pub os : Os
    pub before : List (List ℕ)
    pub more : List (List ℕ)
    pub has : HasOperands given name os (before ++ word ∷ more)
    pub needed : length before ≡ needed_count name
    pub early : after_end ≤ length more

  -- why these request nothing
  abbrev pub IsMisuse : Line → Misuse → Type 0
  IsMisuse given (Argument error) = (word : List ℕ) × (IsTooMany given word × (fault_of error ≡ UnexpectedArgument (Value word)))
  IsMisuse given (Missing what) = IsMissing given what.now
  IsMisuse given (Invalid what word) = IsInvalid given what.now word.now
  IsMisuse given (Misplaced word where_to) = IsMisplaced given word.now where_to.now

  -- These request the command: help, at any position; the version; or a task. The operands are then the task's name, a platform, what the task needs, and paths that come after `--`. Options state how a list of paths is written
  abbrev pub IsRequestFor : Line → Command → Type 0
  IsRequestFor given (Ask task os list keeps_going paths) =
      IsOfPaths given
      × ((HasOperands given (name_of task) os (operands_of_task task ++ operands_of paths.now) × (length (operands_of paths.now) ≤ after_end))
      × (((IsChecked task ↔ HasOption option.Checked given) × (KeepsSeparator task ↔ HasOption option.KeepSeparator given))
      × (HasStyle (style_of os) task
      × (((keeps_going ≡ true) ↔ HasOption option.KeepGoing given)
      × AreStated option.Lines option.Unterminated longest_path given list))))
  IsRequestFor given Help = HasOption option.Help given
  IsRequestFor given Version = (¬ (HasOption option.Help given)) × HasOption option.Version given

  -- these request no command
  abbrev pub RequestsNothing : Line → Type 0
  RequestsNothing given = (command : Command) → ¬ (IsRequestFor given command)

-- the arguments are these options and operands, and this number of them comes after `--`
abbrev pub AreRead : List (List ℕ) → ℕ → Line → Type 0
AreRead words after_end given = AreGiven spelled has_value words given × AreAfterEnd words after_end

-- the arguments are no options and operands that request a command
abbrev pub RequestNothing : List (List ℕ) → Type 0
RequestNothing words = (after_end : ℕ) (given : Line) → AreRead words after_end given → RequestsNothing after_end given
