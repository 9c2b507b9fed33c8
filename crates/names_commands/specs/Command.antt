-- What the options and operands of the command line request.
use Rattle.std.specs.Prelude.{◌≡◌, ◌≢◌, ◌⊎◌, ◌↔◌, ℕ, ◌<◌, ◌^◌, Bool, true, false, IsTrue, List, [], ◌∷◌, ◌++◌, map, string_bytes, None, Some, codes}
use Rattle.std.specs.List.{AllByRecursion}
use Rattle.std.specs.Str.Parse.{IsNumeral, digits_value, without_leading_plus}
use Rattle.glob_patterns.specs.declared.options.GlobOptions.{GlobOptions}
use Rattle.glob_patterns.specs.Options.{usual_options}
use Rattle.os_args.specs.Reading.{UnexpectedArgument}
use Rattle.os_args.specs.Views.{fault_of}
use Rattle.os_args.specs.Word.{Value}
use Rattle.wildcards.specs.declared.separators.Separators.{Separators}
use Rattle.wildcards.specs.declared.separators.Separators.TheVariants.{Slash, SlashAndBackslash}
use Rattle.list_programs.specs.Arguments.{AreValues, HasOption, LastValue, operands_of, text_of}
use Rattle.list_programs.specs.ListOptions.{AreStated}
use Rattle.program_frame.specs.Os.{os_word}
use Rattle.list_programs.specs.declared.arguments.Given.{Given}
use Rattle.list_programs.specs.declared.arguments.Given.TheVariants.{Operand, Flag, Valued}
use Rattle.list_programs.specs.declared.options.ListOptions.{ListOptions}
use Rattle.list_programs.specs.declared.misuse.Misuse.{Misuse}
use Rattle.list_programs.specs.declared.misuse.Misuse.TheVariants.{Argument, Missing, Invalid, Misplaced}
use Rattle.program_frame.specs.declared.os.Os.{Os}
use Rattle.program_frame.specs.declared.os.Os.TheVariants.{Unix, Windows, Wasm}
use Rattle.names_commands.specs.Ignoring.{IsPlaced}
use Rattle.names_commands.specs.Operands.{HasPlatform}
use Rattle.names_commands.specs.Options.{word_of}
use Rattle.names_commands.specs.Pick.{ArePatterns, TakesIgnore}
use Rattle.names_commands.specs.declared.command.Command.{Command}
use Rattle.names_commands.specs.declared.command.Command.TheVariants.{Help, Version, On}
use Rattle.names_commands.specs.declared.command.Name.{Name}
use Rattle.names_commands.specs.declared.command.Name.TheVariants as name
use Rattle.names_commands.specs.declared.command.Request.{Request}
use Rattle.names_commands.specs.declared.command.RequestError.{RequestError}
use Rattle.names_commands.specs.declared.command.RequestError.TheVariants.{Memory, Misuse as OfMisuse}
use Rattle.names_commands.specs.declared.command.Work.{Work}
use Rattle.names_commands.specs.declared.command.Work.TheVariants.{Each, Picked, Tar, Why}
use Rattle.names_commands.specs.declared.matching.Form.{Form}
use Rattle.names_commands.specs.declared.matching.Form.TheVariants as form
use Rattle.names_commands.specs.declared.option.NamesOption.{NamesOption}
use Rattle.names_commands.specs.declared.option.NamesOption.TheVariants as option
use Rattle.names_commands.specs.declared.task.EmptyLine.{EmptyLine}
use Rattle.names_commands.specs.declared.task.EmptyLine.TheVariants.{IsRejected as LineIsRejected, IsEmptyName}
use Rattle.names_commands.specs.declared.task.Task.{Task}
use Rattle.names_commands.specs.declared.task.Task.TheVariants.{ListAll, ListWords, Check, Join, JoinWords}
use Rattle.names_commands.specs.declared.task.WordForm.{WordForm}
use Rattle.names_commands.specs.declared.task.WordForm.TheVariants.{Posix, OneLine}

-- options and operands, as they were given
abbrev pub Line : Type 0
Line = List (Given NamesOption)

-- the word of a command
abbrev pub name_word : Name → List ℕ
name_word name.List = codes "list"
name_word name.Filter = codes "filter"
name_word name.Why = codes "why"
name_word name.Join = codes "join"
name_word name.Check = codes "check"
name_word name.Tar = codes "tar"

-- the command takes the option
abbrev pub TakesOption : Name → NamesOption → Type 0
TakesOption command option.Help = Unit {0}
TakesOption command option.Version = Unit {0}
TakesOption command option.Max = Unit {0}
TakesOption name.List option.Sh = Unit {0}
TakesOption name.Filter option.Sh = ⊥
TakesOption name.Why option.Sh = ⊥
TakesOption name.Join option.Sh = Unit {0}
TakesOption name.Check option.Sh = ⊥
TakesOption name.Tar option.Sh = ⊥
TakesOption name.List option.ShLine = Unit {0}
TakesOption name.Filter option.ShLine = ⊥
TakesOption name.Why option.ShLine = ⊥
TakesOption name.Join option.ShLine = Unit {0}
TakesOption name.Check option.ShLine = ⊥
TakesOption name.Tar option.ShLine = ⊥
TakesOption command option.Lines = Unit {0}
TakesOption name.List option.Unterminated = Unit {0}
TakesOption name.Filter option.Unterminated = Unit {0}
TakesOption name.Why option.Unterminated = Unit {0}
TakesOption name.Join option.Unterminated = Unit {0}
TakesOption name.Check option.Unterminated = Unit {0}
TakesOption name.Tar option.Unterminated = ⊥
TakesOption name.List option.Empty = ⊥
TakesOption name.Filter option.Empty = ⊥
TakesOption name.Why option.Empty = ⊥
TakesOption name.Join option.Empty = Unit {0}
TakesOption name.Check option.Empty = ⊥
TakesOption name.Tar option.Empty = ⊥
TakesOption name.List option.Glob = Unit {0}
TakesOption name.Filter option.Glob = Unit {0}
TakesOption name.Why option.Glob = Unit {0}
TakesOption name.Join option.Glob = ⊥
TakesOption name.Check option.Glob = ⊥
TakesOption name.Tar option.Glob = ⊥
TakesOption name.List option.Name = Unit {0}
TakesOption name.Filter option.Name = Unit {0}
TakesOption name.Why option.Name = Unit {0}
TakesOption name.Join option.Name = ⊥
TakesOption name.Check option.Name = ⊥
TakesOption name.Tar option.Name = ⊥
TakesOption name.List option.Ignore = Unit {0}
TakesOption name.Filter option.Ignore = Unit {0}
TakesOption name.Why option.Ignore = Unit {0}
TakesOption name.Join option.Ignore = ⊥
TakesOption name.Check option.Ignore = ⊥
TakesOption name.Tar option.Ignore = ⊥
TakesOption name.List option.Invert = Unit {0}
TakesOption name.Filter option.Invert = Unit {0}
TakesOption name.Why option.Invert = ⊥
TakesOption name.Join option.Invert = ⊥
TakesOption name.Check option.Invert = ⊥
TakesOption name.Tar option.Invert = ⊥
TakesOption name.List option.IgnoreCase = Unit {0}
TakesOption name.Filter option.IgnoreCase = Unit {0}
TakesOption name.Why option.IgnoreCase = Unit {0}
TakesOption name.Join option.IgnoreCase = ⊥
TakesOption name.Check option.IgnoreCase = ⊥
TakesOption name.Tar option.IgnoreCase = ⊥
TakesOption name.List option.Exclude = Unit {0}
TakesOption name.Filter option.Exclude = Unit {0}
TakesOption name.Why option.Exclude = ⊥
TakesOption name.Join option.Exclude = ⊥
TakesOption name.Check option.Exclude = ⊥
TakesOption name.Tar option.Exclude = ⊥
TakesOption name.List option.GlobsFrom = Unit {0}
TakesOption name.Filter option.GlobsFrom = Unit {0}
TakesOption name.Why option.GlobsFrom = ⊥
TakesOption name.Join option.GlobsFrom = ⊥
TakesOption name.Check option.GlobsFrom = ⊥
TakesOption name.Tar option.GlobsFrom = ⊥
TakesOption name.List option.ExitStatus = Unit {0}
TakesOption name.Filter option.ExitStatus = Unit {0}
TakesOption name.Why option.ExitStatus = Unit {0}
TakesOption name.Join option.ExitStatus = ⊥
TakesOption name.Check option.ExitStatus = ⊥
TakesOption name.Tar option.ExitStatus = ⊥

-- the command takes the option, if this is one
abbrev pub FitsOne : Name → Given NamesOption → Type 0
FitsOne command (Operand word) = Unit {0}
FitsOne command (Flag option) = TakesOption command option
FitsOne command (Valued option value) = TakesOption command option

-- the command takes each option of these
abbrev pub Fits : Name → Line → Type 0
Fits command [] = Unit {0}
Fits command (one ∷ given) = FitsOne command one × Fits command given

-- the operands are the command, a platform, which may be left out, and these
abbrev pub HasOperands : Line → Name → Os → List (List ℕ) → Type 0
HasOperands given command os more = (after : List (List ℕ)) × ((operands_of given ≡ name_word command ∷ after) × HasPlatform after os more)

-- options state which names match, which `--invert` turns round: by patterns, by ignore files, or by pattern files
abbrev pub OptionsMatch : Line → Type 0
OptionsMatch given = HasOption option.Glob given ⊎ (HasOption option.Ignore given ⊎ (HasOption option.Name given ⊎ HasOption option.GlobsFrom given))

-- a pattern that is an operand states that, or options do
abbrev pub SomeMatch : Line → List (List ℕ) → Type 0
SomeMatch given more = (more ≢ []) ⊎ OptionsMatch given

-- some names are picked: since they match, or by patterns of names to leave out
abbrev pub SomePicked : Line → List (List ℕ) → Type 0
SomePicked given more = SomeMatch given more ⊎ HasOption option.Exclude given

-- there is one or none
abbrev pub AtMostOne : List (List ℕ) → Type 0
AtMostOne [] = Unit {0}
AtMostOne (word ∷ []) = Unit {0}
AtMostOne (word ∷ other ∷ more) = ⊥

-- whether names are picked: by a pattern that is an operand, or by options; or all names are meant. `--invert` needs some that match
abbrev pub Picks : Line → Os → List (List ℕ) → Bool → Type 0
Picks given os more true = AtMostOne more × (SomePicked given more × ((HasOption option.Invert given → SomeMatch given more) × (HasOption option.Ignore given → TakesIgnore os)))
Picks given os more false = (¬ (SomePicked given more)) × (¬ (HasOption option.Invert given))

-- how words of a shell are written: each on one line where that is requested
abbrev pub IsForm : Line → WordForm → Type 0
IsForm given Posix = HasOption option.Sh given × (¬ (HasOption option.ShLine given))
IsForm given OneLine = HasOption option.ShLine given

-- neither option for words of a shell is given
abbrev pub NoWords : Line → Type 0
NoWords given = (¬ (HasOption option.Sh given)) × (¬ (HasOption option.ShLine given))

-- whether an empty line is the escape of the empty name
abbrev pub IsEmptyLine : Line → EmptyLine → Type 0
IsEmptyLine given LineIsRejected = ¬ (HasOption option.Empty given)
IsEmptyLine given IsEmptyName = HasOption option.Empty given

-- the work of `list`: the names that are picked in a form, or a task for each name
abbrev pub listing : Bool → Form → Task → Work
listing true shape task = Picked shape
listing false shape task = Each task

-- the command is `list`, and names are picked or all are meant
abbrev pub Lists : Line → Os → Bool → Type 0
Lists given os picks = (more : List (List ℕ)) × (HasOperands given name.List os more × (Fits name.List given × Picks given os more picks))

-- the work that these make up, on the platform
abbrev pub MakesUpWork : Line → Os → Work → Type 0
MakesUpWork given os (Each ListAll) = Lists given os false × NoWords given
MakesUpWork given os (Each (ListWords words)) = Lists given os false × ((os ≡ Unix) × IsForm given words)
MakesUpWork given os (Each Check) = HasOperands given name.Check os [] × Fits name.Check given
MakesUpWork given os (Each (Join empty)) = HasOperands given name.Join os [] × (Fits name.Join given × (NoWords given × IsEmptyLine given empty))
MakesUpWork given os (Each JoinWords) = HasOperands given name.Join os [] × (Fits name.Join given × ((os ≡ Unix) × (¬ (NoWords given))))
MakesUpWork given os (Picked form.Line) = Lists given os true × NoWords given
MakesUpWork given os (Picked (form.Word words)) = Lists given os true × ((os ≡ Unix) × IsForm given words)
MakesUpWork given os (Picked form.Name) = (more : List (List ℕ)) × (HasOperands given name.Filter os more × (Fits name.Filter given × Picks given os more true))
MakesUpWork given os Tar = HasOperands given name.Tar os [] × Fits name.Tar given
MakesUpWork given os Why = (more : List (List ℕ)) × (HasOperands given name.Why os more × (Fits name.Why given × Picks given os more true))

-- the command that these make up
abbrev pub MakesUp : Line → Command → Type 0
MakesUp given (On os work) = MakesUpWork given os work
MakesUp given Help = ⊥
MakesUp given Version = ⊥

-- the text is this number of bytes, as std reads a `usize`: digits, after a `+` or not
pub record IsLimit (text : List ℕ) (max : ℕ) : Type 0 where
  pub digits : IsNumeral 10 (without_leading_plus text)
  pub value : max ≡ digits_value 10 (without_leading_plus text)
  pub fits : max < 2 ^ 64

-- how many bytes a name may have: what the last `--max` states, or 1,048,576
abbrev pub IsMax : Line → ℕ → Type 0
IsMax given max =
    (LastValue option.Max given None None × (max ≡ 1048576))
    ⊎ ((number : List ℕ) × (LastValue option.Max given None (Some number) × IsLimit number max))

-- how the list is written: by the options for lines and for a last item without its end, and with that limit
abbrev pub IsListed : Line → ListOptions → Type 0
IsListed given list = (max : ℕ) × (IsMax given max × AreStated option.Lines option.Unterminated max given list)

-- all that options and operands state: the command, how the list is written, the patterns, of which the first `plain` come before those of `--name`, the pattern files, the values of `--ignore`, whether the names are picked that don't match, whether patterns and files match without regard to case, the patterns of names that are left out in any case, and whether it is a fault if nothing is written
pub record Requested : Type 0 where
  pub command : Command
  pub list : ListOptions
  pub plain : ℕ
  pub globs : List (List ℕ)
  pub pattern_files : List (List ℕ)
  pub files : List (List ℕ)
  pub inverted : Bool
  pub case_insensitive : Bool
  pub excluded : List (List ℕ)
  pub exit_status : Bool

-- what a request states
abbrev pub requested_of : {A : Type 0} → Request A → Requested
requested_of request = record {
  command = request.command;
  list = request.list;
  plain = request.plain;
  globs = map string_bytes request.patterns.items;
  pattern_files = map text_of request.pattern_files.items;
  files = map text_of request.files.items;
  inverted = request.inverted;
  case_insensitive = request.case_insensitive;
  excluded = map string_bytes request.excluded.items;
  exit_status = request.exit_status;
}

-- what states patterns that pick names: arguments, and files
abbrev pub sources_of : Requested → List (List ℕ)
sources_of requested = requested.globs ++ requested.pattern_files

-- these state the patterns, the pattern files, the ignore files, each in a directory of the tree, whether the other names are picked, whether case is disregarded, the patterns of names that are left out, and whether it is a fault if nothing is written
abbrev pub StatesPicks : Line → Requested → Type 0
StatesPicks given a = (ArePatterns given a.plain a.globs × AreValues option.GlobsFrom given a.pattern_files) × ((AreValues option.Ignore given a.files × AllByRecursion IsPlaced a.files) × ((IsTrue a.inverted ↔ HasOption option.Invert given) × ((IsTrue a.case_insensitive ↔ HasOption option.IgnoreCase given) × (AreValues option.Exclude given a.excluded × (IsTrue a.exit_status ↔ HasOption option.ExitStatus given)))))

-- these make up the request: help, wherever its option is; the version; or a command
abbrev pub IsRequestFor : Line → Requested → Type 0
IsRequestFor given a =
    (HasOption option.Help given × (a.command ≡ Help))
    ⊎ ((¬ (HasOption option.Help given)) × (
    (HasOption option.Version given × (a.command ≡ Version))
    ⊎ ((¬ (HasOption option.Version given)) × (IsListed given a.list × (MakesUp given a.command × StatesPicks given a)))
    ))

-- what is missing: a command, what picks names, what `--invert` turns round, or what `why` gives the reason for
abbrev pub IsMissing : Line → List ℕ → Type 0
IsMissing given what =
    ((what ≡ codes "command (list, filter, why, join, check or tar)") × (operands_of given ≡ []))
    ⊎ (((what ≡ codes "GLOB, --glob, --globs-from, --name, --ignore or --exclude") × ((os : Os) × (HasOperands given name.Filter os [] × (¬ (SomePicked given [])))))
    ⊎ (((what ≡ codes "GLOB, --glob, --globs-from, --name or --ignore for --invert") × ((command : Name) × (os : Os) × (HasOperands given command os [] × (HasOption option.Invert given × (¬ (OptionsMatch given))))))
    ⊎ ((what ≡ codes "GLOB, --glob, --name or --ignore") × ((os : Os) × (HasOperands given name.Why os [] × (¬ (SomePicked given [])))))))

-- which word is no command or no number of bytes, or states an ignore file in no directory of the tree
abbrev pub IsInvalid : Line → List ℕ → List ℕ → Type 0
IsInvalid given what word =
    ((what ≡ codes "command") × (((command : Name) → word ≢ name_word command) × ((more : List (List ℕ)) × (operands_of given ≡ word ∷ more))))
    ⊎ (((what ≡ codes "number of bytes") × (LastValue option.Max given None (Some word) × ((max : ℕ) → ¬ (IsLimit word max))))
    ⊎ ((what ≡ codes "DIR of --ignore") × ((before : List (List ℕ)) × (after : List (List ℕ)) × (AreValues option.Ignore given (before ++ word ∷ after) × (¬ (IsPlaced word))))))

-- the platform takes the option: words of a shell are for Unix, and ignore files aren't for Windows
abbrev pub IsForPlatform : Os → NamesOption → Type 0
IsForPlatform os option.Help = Unit {0}
IsForPlatform os option.Version = Unit {0}
IsForPlatform os option.Max = Unit {0}
IsForPlatform os option.Sh = os ≡ Unix
IsForPlatform os option.ShLine = os ≡ Unix
IsForPlatform os option.Lines = Unit {0}
IsForPlatform os option.Unterminated = Unit {0}
IsForPlatform os option.Empty = Unit {0}
IsForPlatform os option.Glob = Unit {0}
IsForPlatform os option.Name = Unit {0}
IsForPlatform os option.Ignore = TakesIgnore os
IsForPlatform os option.Invert = Unit {0}
IsForPlatform os option.IgnoreCase = Unit {0}
IsForPlatform os option.Exclude = Unit {0}
IsForPlatform os option.GlobsFrom = Unit {0}
IsForPlatform os option.ExitStatus = Unit {0}

-- which option isn't for the command that is given, or for its platform
pub record IsMisplaced (given : Line) (word where_to : List ℕ) : Type 0 where
  pub it : NamesOption
  pub command : Name
  pub os : Os
  pub more : List (List ℕ)
  pub word_is : word ≡ word_of it
  pub has : HasOption it given
  pub operands : HasOperands given command os more
  pub unfit : ((where_to ≡ name_word command) × (¬ (TakesOption command it))) ⊎ ((where_to ≡ os_word os) × (¬ (IsForPlatform os it)))

-- an operand is one too many: list, filter and why take a pattern after the platform, the others nothing
abbrev pub IsTooMany : Line → List ℕ → Type 0
IsTooMany given word = (command : Name) × (os : Os) × (more : List (List ℕ)) × (
    (TakesOption command option.Glob × ((glob : List ℕ) × HasOperands given command os (glob ∷ word ∷ more)))
    ⊎ ((¬ (TakesOption command option.Glob)) × HasOperands given command os (word ∷ more)))

-- the option is given, and is for words of a shell
abbrev pub IsWordOption : Line → NamesOption → Type 0
IsWordOption given it = HasOption it given × ((os : Os) → os ≢ Unix → ¬ (IsForPlatform os it))

-- why these make up no command
abbrev pub IsMisuse : Line → Misuse → Type 0
IsMisuse given (Argument error) = (word : List ℕ) × (IsTooMany given word × (fault_of error ≡ UnexpectedArgument (Value word)))
IsMisuse given (Missing what) = IsMissing given what.now
IsMisuse given (Invalid what word) = IsInvalid given what.now word.now
IsMisuse given (Misplaced word where_to) = IsMisplaced given word.now where_to.now

-- these make up no request, and this is wrong with them
pub record IsRejected (given : Line) (misuse : Misuse) : Type 0 where
  pub no_request : (requested : Requested) → ¬ (IsRequestFor given requested)
  pub wrong : IsMisuse given misuse

-- why there is no request of these; an allocation may fail
abbrev pub IsRequestError : Line → RequestError → Type 0
IsRequestError given (OfMisuse misuse) = IsRejected given misuse
IsRequestError given Memory = Unit {0}

-- what separates components on the platform: `\` does on Windows alone
abbrev pub separators_of : Os → Separators
separators_of Unix = Slash
separators_of Windows = SlashAndBackslash
separators_of Wasm = Slash

-- these options, with regard to case or without
abbrev pub with_case : Bool → GlobOptions → GlobOptions
with_case case_insensitive o = record { separators = o.separators; literal_leading_dot = o.literal_leading_dot; escapes = o.escapes; class_escapes = o.class_escapes; case_insensitive = case_insensitive }

-- how a pattern is matched on the platform, without regard to case where that is requested
abbrev pub options_of : Os → Bool → GlobOptions
options_of os case_insensitive = with_case case_insensitive (usual_options (separators_of os))
