-- The whole program, from the words after its name to its exit status.
use Rattle.std.specs.Prelude.{◌≡◌, ◌⊎◌, ◌+◌, ◌∷◌, ◌++◌, ℕ, Bool, List, map, drop, Option, None, Some, IfSome, Result, Ok, Err, ⊤, length, take, codes}
use Rattle.std.specs.List.{AllByRecursion}
use Rattle.std.specs.Option.{option_map}
use Rattle.std.specs.Io.KnownBytes.{Appends, IsAtEnd}
use Rattle.std.specs.Fmt.InlineText.{inline_text}
use Rattle.os_str_bytes.specs.EncodingError.{EncodingError}
use Rattle.os_str_bytes.specs.Platform.{Ghosts}
use Rattle.os_ignore.specs.declared.file.File.{File}
use Rattle.glob_patterns.specs.declared.options.GlobOptions.{GlobOptions}
use Rattle.glob_text.specs.declared.fault.PatternFault.{PatternFault}
use Rattle.glob_text.specs.Marks.{Mark}
use Rattle.os_args.specs.Views.{fault_of}
use Rattle.os_args.specs.declared.error.ArgumentError.{ArgumentError}
use Rattle.os_str_bytes.specs.Wasm.{Wasm}
use Rattle.os_str_bytes.specs.WasmPlatform.TheImpl as wasm
use Rattle.platform_str.specs.declared.os_str.OsStr.{OsStr}
use Rattle.list_programs.specs.Arguments.{AreGiven, HasFault}
use Rattle.program_frame.specs.Files.{KnownFiles}
use Rattle.list_programs.specs.declared.misuse.Misuse as misuse
use Rattle.list_programs.specs.declared.misuse.Misuse.TheVariants.{Argument}
use Rattle.names_commands.specs.Fault.{IsOfMisuse, none_for}
use Rattle.names_commands.specs.Options.{has_value, spelled}
use Rattle.program_frame.specs.Marked.{marked_inner}
use Rattle.program_frame.specs.declared.marked.Marked.{Marked}
use Rattle.program_frame.specs.Strings.{strings}
use Rattle.program_frame.specs.declared.os.Os.{Os}
use Rattle.program_frame.specs.Written.{AppendsBeginning, WritesText}
use Rattle.list_programs.specs.ListRun.{EndedBy, Runs}
use Rattle.program_frame.specs.declared.fault.Failure.TheVariants.{Memory, Read, Write}
use Rattle.list_programs.specs.declared.fault.ListFault.{ListFault}
use Rattle.list_programs.specs.declared.fault.ListFault.TheVariants.{Run}
use Rattle.list_programs.specs.declared.options.ListOptions.{ListOptions}
use Rattle.names_commands.specs.declared.command.Command.{Command}
use Rattle.names_commands.specs.declared.command.Command.TheVariants.{Help, Version, On}
use Rattle.names_commands.specs.declared.command.Work.{Work}
use Rattle.names_commands.specs.declared.command.Work.TheVariants.{Each, Picked, Tar, Why}
use Rattle.list_programs.specs.declared.program_fault.Fault as program_fault
use Rattle.list_programs.specs.declared.program_fault.Fault.TheVariants.{List as OfList, Words}
use Rattle.names_commands.specs.declared.fault.Rejection.{Rejection}
use Rattle.names_commands.specs.declared.fault.CommandFault.{CommandFault}
use Rattle.names_commands.specs.declared.fault.CommandFault.TheVariants.{Unreadable, Misuse, Pattern, NoFile, Unread, NoPatternFile, UnreadPatternFile, LinePattern, LineNoString, NoOutput}
use Rattle.names_commands.specs.declared.matching.Form.{Form}
use Rattle.names_commands.specs.Caret.{IsPointed}
use Rattle.names_commands.specs.Ignoring.{AreRead, IsFileIn, IsFirstUnread, needs_tree}
use Rattle.names_commands.specs.Matching.{picking, AreWrittenOut, IsChosen, IsFirstFault, IsMatched, IsPattern, IsPicked}
use Rattle.names_commands.specs.PatternFiles.{ArePatternsOf, IsFirstNoString, IsUnreadOf, PatternLine, text_of}
use Rattle.names_commands.specs.Pick.{added_before, typed_fault}
use Rattle.names_commands.specs.FirstGlob.{IsFirst}
use Rattle.names_commands.specs.Why.{Sources, deciding, sources}
use Rattle.names_commands.specs.Command.{Requested, IsRequestFor, IsRejected, Line, options_of, sources_of}
use Rattle.names_commands.specs.Tar.{IsTarOutput}
use Rattle.names_commands.specs.Task.{rules_of}

-- what keeps the program from its output
abbrev pub Fault : Type 0
Fault = program_fault.Fault Rejection CommandFault

-- what is done: a relation of the bytes that a reader had left and has left, of what a writer held and holds, as far as they are known, and of the result
abbrev pub Doing : Type 1
Doing = Option (List ℕ) → Option (List ℕ) → Option (List ℕ) → Option (List ℕ) → Result ⊤ Fault → Type 0

-- this is done between these states of a reader and a writer, of whose bytes this is known
abbrev pub Did : {R W : Type 0} → (R → Option (List ℕ)) → (W → Option (List ℕ)) → Doing → Marked R → Marked R → Marked W → Marked W → Result ⊤ Fault → Type 0
Did remaining contents Done reader read writer written answer = Done (remaining (marked_inner reader)) (remaining (marked_inner read)) (contents (marked_inner writer)) (contents (marked_inner written)) answer

-- the program ends with this fault before anything is read or written
abbrev pub EndsAtOnce : Fault → Doing
EndsAtOnce fault input left old new answer = (answer ≡ Err fault) × ((left ≡ input) × (new ≡ old))

-- so it ends where memory is refused, or else this is done
abbrev pub UnlessOutOfMemory : Doing → Doing
UnlessOutOfMemory Done input left old new answer = EndsAtOnce (OfList (Run Memory)) input left old new answer ⊎ Done input left old new answer

-- a text of the program's own that begins so is written, and nothing is read
abbrev pub WritesTextFrom : List ℕ → Doing
WritesTextFrom start input left old new answer =
    (left ≡ input) × ((text : List ℕ) × ((take (length start) text ≡ start) × WritesText text (OfList (Run Write)) old new answer))

-- no file has the name that this value of `--ignore` states
abbrev pub LacksFile : KnownFiles → List ℕ → Type 0
LacksFile known value = (directory : List ℕ) × (name : List ℕ) × (IsFileIn value directory name × known.lacks name)

-- the file of the name that this value of `--ignore` states can't be read
abbrev pub FailsToRead : KnownFiles → List ℕ → Type 0
FailsToRead known value = (directory : List ℕ) × (name : List ℕ) × (IsFileIn value directory name × known.fails name)

-- why the ignore file with this number, which this value states, can't be read
abbrev pub IsFaultOfOne : KnownFiles → ℕ → List ℕ → Fault → Type 0
IsFaultOfOne known number value fault = (fault ≡ OfList (Run Memory)) ⊎ (((fault ≡ Words (NoFile number)) × LacksFile known value) ⊎ ((fault ≡ Words (Unread number)) × FailsToRead known value))

-- the fault of the pattern with this number, where the first `added` bytes of its text come before what was typed: the fault of what was typed, and the lines that show where it is
abbrev pub IsOfPattern : ℕ → ℕ → List ℕ → PatternFault → Fault → Type 0
IsOfPattern added number text fault why = (lines : _) × IsPointed (drop added text) (typed_fault added fault).index (inline_text lines) × (why ≡ Words (Pattern number (typed_fault added fault) lines))

-- why patterns are rejected, before which others are counted, and the first `plain` of which come before those of `--name`: the fault of the first that has one
abbrev pub IsOfPatterns : {E : Type 0} → Ghosts E → GlobOptions → ℕ → ℕ → List (List ℕ) → Fault → Type 0
IsOfPatterns p o before plain texts why = (index : ℕ) × (fault : PatternFault) × (first : IsFirstFault p o texts index fault) × IsOfPattern (added_before plain index) (before + index + 1) first.text fault why

-- why patterns of files are rejected: the first isn't a string of the platform
abbrev pub IsOfNoString : {E : Type 0} → Ghosts E → List PatternLine → Fault → Type 0
IsOfNoString p patterns why = (pattern : PatternLine) × (error : EncodingError) × IsFirstNoString p patterns pattern error × (why ≡ Words (LineNoString pattern.file pattern.line error))

-- the fault of this pattern of a file, and the lines that show where it is
abbrev pub IsOfLine : PatternLine → PatternFault → Fault → Type 0
IsOfLine pattern fault why = (lines : _) × IsPointed pattern.text fault.index (inline_text lines) × (why ≡ Words (LinePattern pattern.file pattern.line fault lines))

-- why patterns of files are rejected, all of which are strings of the platform: the fault of the first that has one
abbrev pub IsOfLines : {E : Type 0} → Ghosts E → GlobOptions → List PatternLine → Fault → Type 0
IsOfLines p o patterns why = (index : ℕ) × (fault : PatternFault) × (pattern : PatternLine) × (after : List PatternLine) × IsFirstFault p o (map text_of patterns) index fault × ((drop index patterns ≡ pattern ∷ after) × IsOfLine pattern fault why)

-- why the patterns of a request are rejected, where its files have these: one isn't a string of the platform, or else the first that has a fault, of those that pick names, from arguments and then from files, and then of those that leave names out
abbrev pub IsOfGlobs : {E : Type 0} → Ghosts E → GlobOptions → Requested → List PatternLine → Fault → Type 0
IsOfGlobs p o requested patterns why =
    IsOfNoString p patterns why
    ⊎ (IsOfPatterns p o 0 requested.plain requested.globs why
    ⊎ ((AllByRecursion (IsPattern p o) requested.globs × IsOfLines p o patterns why)
    ⊎ (AllByRecursion (IsPattern p o) (requested.globs ++ map text_of patterns) × IsOfPatterns p o (length requested.globs) (length requested.excluded) requested.excluded why)))

-- what the texts of reasons are taken of
abbrev pub reason_sources : Requested → Sources
reason_sources requested = sources requested.files requested.plain requested.globs

-- the result where this is the first entry of an archive that is rejected, if one is
abbrev pub tar_outcome : Option (ListFault Rejection) → Result ⊤ Fault
tar_outcome None = Ok tt
tar_outcome (Some fault) = Err (OfList fault)

-- the names of an archive's entries are written, on a platform that states this of its strings, and the result is the first entry that is rejected. Or a write fails
abbrev pub WritesTar : {E : Type 0} → Ghosts E → ListOptions → List ℕ → Option (List ℕ) → Option (List ℕ) → Result ⊤ Fault → Type 0
WritesTar p list archive old new answer = (output : List ℕ) × (first : Option (ListFault Rejection)) × (IsTarOutput p list archive output first × (
    ((answer ≡ tar_outcome first) × Appends old new output)
    ⊎ ((answer ≡ Err (OfList (Run Write))) × AppendsBeginning old new output)))

-- nothing is written, since memory is refused or a read fails. Or all is read, and the names of the archive that it is are written
abbrev pub RunsTar : {E : Type 0} → Ghosts E → ListOptions → Doing
RunsTar p list input left old new answer =
    (((answer ≡ Err (OfList (Run Memory))) ⊎ (answer ≡ Err (OfList (Run Read)))) × (new ≡ old))
    ⊎ (IsAtEnd left × IfSome input (λ archive. WritesTar p list archive old new answer))

-- where this is known of files, and memory is taken of an allocator of this type:
module _ (known : KnownFiles) (A : Type 0) where
  -- why an ignore file can't be read: no file has the name, or a read of it fails
  abbrev pub IsFileFault : Bool → List (List ℕ) → CommandFault → Type 0
  IsFileFault folds values Unreadable = ⊥
  IsFileFault folds values (Misuse text) = ⊥
  IsFileFault folds values (Pattern number why lines) = ⊥
  IsFileFault folds values (NoFile number) = (value : List ℕ) × IsFirstUnread A known folds values number value × LacksFile known value
  IsFileFault folds values (Unread number) = (value : List ℕ) × IsFirstUnread A known folds values number value × FailsToRead known value
  IsFileFault folds values (NoPatternFile number) = ⊥
  IsFileFault folds values (UnreadPatternFile number) = ⊥
  IsFileFault folds values (LinePattern file line why lines) = ⊥
  IsFileFault folds values (LineNoString file line error) = ⊥
  IsFileFault folds values NoOutput = ⊥

  -- why ignore files can't be read: that, or that memory was refused
  abbrev pub IsFaultOf : Bool → List (List ℕ) → Fault → Type 0
  IsFaultOf folds values fault = (fault ≡ OfList (Run Memory)) ⊎ ((why : CommandFault) × IsFileFault folds values why × (fault ≡ Words why))

  -- the run ends with the first ignore file that can't be read. Or it writes these names, but for those that the files ignore, or, inverted, the others, without those that are left out in any case, on a platform that states this of its strings, from a list that is written so
  abbrev pub RunsBut : {E : Type 0} → Ghosts E → Form → ListOptions → Bool → Bool → (List ℕ → Type 0) → (List ℕ → Type 0) → List (List ℕ) → Doing
  RunsBut p shape list inverted folds Chosen Excluded values input left old new answer =
      ((why : CommandFault) × IsFileFault folds values why × EndsAtOnce (Words why) input left old new answer)
      ⊎ ((files : List (File A)) × AreRead known folds values files × Runs (picking p shape list (needs_tree values) (IsPicked inverted Chosen Excluded files)) OfList input left old new answer)

  -- where this is requested, on a platform that states this of its strings:
  module _ {E : Type 0} (p : Ghosts E) (requested : Requested) where
    -- the run ends with the first ignore file that can't be read. Or it writes what decides names, the lines of the files or else the first pattern that matches, and these names
    abbrev pub RunsDeciding : (List ℕ → Option ℕ → Type 0) → Doing
    RunsDeciding First input left old new answer =
        ((why : CommandFault) × IsFileFault requested.case_insensitive requested.files why × EndsAtOnce (Words why) input left old new answer)
        ⊎ ((files : List (File A)) × AreRead known requested.case_insensitive requested.files files × Runs (deciding p First requested.list (reason_sources requested) files) OfList input left old new answer)

    -- the run ends with the first of the patterns that has a fault. Or it does that with the patterns
    abbrev pub RunsReasons : Os → Doing
    RunsReasons os input left old new answer =
        ((why : Fault) × IsOfPatterns p (options_of os requested.case_insensitive) 0 requested.plain requested.globs why × EndsAtOnce why input left old new answer)
        ⊎ ((written : List (List (List Mark))) × AreWrittenOut p (options_of os requested.case_insensitive) requested.globs written × RunsDeciding (IsFirst p (options_of os requested.case_insensitive) written) input left old new answer)

    -- why the run ends before names are read: a pattern file can't be read, or a pattern has a fault
    abbrev pub IsOfPicks : GlobOptions → Fault → Type 0
    IsOfPicks o why =
        ((fault : CommandFault) × IsUnreadOf known 1 requested.pattern_files fault × (why ≡ Words fault))
        ⊎ ((patterns : List PatternLine) × ArePatternsOf known 1 requested.pattern_files patterns × IsOfGlobs p o requested patterns why)

    -- these are the patterns without alternatives that the patterns of arguments, and then of files, are written out as
    abbrev pub ArePicksWrittenOut : GlobOptions → List (List (List Mark)) → Type 0
    ArePicksWrittenOut o written = (patterns : List PatternLine) × (ArePatternsOf known 1 requested.pattern_files patterns × AreWrittenOut p o (requested.globs ++ map text_of patterns) written)

    -- the run ends with the first pattern file that can't be read, or the first of the patterns that has a fault. Or it writes in this form the names that one of them matches, or all where there are neither GLOBs nor pattern files, but for those that the files ignore; or, inverted, the others. It never writes those that a pattern of names to leave out matches
    abbrev pub RunsPicked : Os → Form → Doing
    RunsPicked os shape input left old new answer =
        ((why : Fault) × IsOfPicks (options_of os requested.case_insensitive) why × EndsAtOnce why input left old new answer)
        ⊎ ((written : List (List (List Mark))) × (excluded : List (List (List Mark))) × ArePicksWrittenOut (options_of os requested.case_insensitive) written × (AreWrittenOut p (options_of os requested.case_insensitive) requested.excluded excluded × RunsBut p shape requested.list requested.inverted requested.case_insensitive (IsChosen p (sources_of requested) (options_of os requested.case_insensitive) written) (IsMatched p (options_of os requested.case_insensitive) excluded) requested.files input left old new answer))

    -- this is done, and where nothing is written, that is a fault if it was requested
    abbrev pub WithStatus : Doing → Doing
    WithStatus = EndedBy (option_map Words (none_for requested.exit_status))

    -- what is done with a list
    abbrev pub DoesWork : Os → Work → Doing
    DoesWork os (Each what) input left old new answer = WithStatus (Runs (rules_of p (record { task = what; list = requested.list })) OfList) input left old new answer
    DoesWork os (Picked shape) input left old new answer = WithStatus (UnlessOutOfMemory (RunsPicked os shape)) input left old new answer
    DoesWork os Why input left old new answer = WithStatus (UnlessOutOfMemory (RunsReasons os)) input left old new answer
    DoesWork os Tar input left old new answer = RunsTar p requested.list input left old new answer

  -- what a command does
  abbrev pub DoesCommand : Requested → Command → Doing
  DoesCommand requested Help input left old new answer = WritesTextFrom (codes "names: ") input left old new answer
  DoesCommand requested Version input left old new answer = WritesTextFrom (codes "names ") input left old new answer
  DoesCommand requested (On os work) input left old new answer = DoesWork (strings os) requested os work input left old new answer

  -- what a request does
  abbrev pub Does : Requested → Doing
  Does requested input left old new answer = DoesCommand requested requested.command input left old new answer

  -- the options and operands make up no request, and the run ends at once with what is wrong
  abbrev pub RejectsLine : Line → Doing
  RejectsLine given input left old new answer = (wrong : misuse.Misuse) × (why : CommandFault) × ((IsRejected given wrong × IsOfMisuse wrong why) × EndsAtOnce (Words why) input left old new answer)

  -- the options and operands make up a request, which has this result, or none
  abbrev pub RunsLine : Line → Doing
  RunsLine given input left old new answer =
      RejectsLine given input left old new answer
      ⊎ ((requested : Requested) × (IsRequestFor given requested × Does requested input left old new answer))

  -- the arguments have a fault, and the run ends at once with the first
  abbrev pub RejectsWords : List (List ℕ) → Doing
  RejectsWords words input left old new answer = (error : ArgumentError (OsStr Wasm wasm.ghosts)) × (why : CommandFault) × ((HasFault spelled has_value words (fault_of error) × IsOfMisuse (Argument error) why) × EndsAtOnce (Words why) input left old new answer)

  -- the arguments are options and operands, with this result, or have a fault; memory may be refused first
  abbrev pub RunsTo : List (List ℕ) → Doing
  RunsTo words input left old new answer =
      EndsAtOnce (OfList (Run Memory)) input left old new answer
      ⊎ (RejectsWords words input left old new answer
      ⊎ ((given : Line) × (AreGiven spelled has_value words given × RunsLine given input left old new answer)))
