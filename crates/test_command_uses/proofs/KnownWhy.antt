-- What the program does for the words that ask which lines of one ignore file decide names.
use Rattle.std.proofs.Common.{◌≡◌, ◌≢◌, ◌⊎◌, inl, inr, ℕ, zero, suc, Bool, false, List, [], ◌∷◌, ◌++◌, drop, get_or, refl, sym, ap, ◌∙◌, subst, append-nil, arith, Option, Some, None, Result, Ok, Err}
use Rattle.std.specs.Prelude.{codes, OnOk, ⊤}
use Rattle.std.specs.List.{AllByRecursion}
use Rattle.std.specs.Io.KnownBytes.{Appends}
use denote.Ref.{Bor}
use Rattle.os_ignore.specs.Ignores.{HasText}
use Rattle.os_ignore.specs.declared.file.File.{File}
use Rattle.program_frame.specs.Files.{KnownFiles}
use Rattle.list_programs.specs.Items.{Lacks, texts_of}
use Rattle.list_programs.specs.ListRun.{IsOutput, IsRun, answer_of}
use Rattle.program_frame.specs.Os.{os_word}
use Rattle.list_programs.specs.Rules.{IsEntry}
use Rattle.program_frame.specs.Strings.{strings}
use Rattle.program_frame.specs.declared.fault.Failure.TheVariants.{Memory}
use Rattle.list_programs.specs.declared.fault.ListFault.{ListFault}
use Rattle.list_programs.specs.declared.fault.ListFault.TheVariants.{Run}
use Rattle.list_programs.specs.declared.program_fault.Fault.TheVariants.{List as OfList}
use Rattle.os_quote.specs.Escape.{IsLineEscape}
use Rattle.os_str_bytes.specs.UnixPlatform.TheImpl as unix
use Rattle.list_programs.specs.declared.options.ListOptions.{ListOptions}
use Rattle.program_frame.specs.declared.os.Os.{Os}
use Rattle.program_frame.specs.declared.os.Os.TheVariants.{Unix, Windows, Wasm}
use Rattle.names_commands.specs.Command.{Requested, IsRequestFor, HasOperands, IsListed, Line, MakesUp, MakesUpWork, StatesPicks, name_word, options_of}
use Rattle.names_commands.specs.Ignoring.{AreRead, IsFromTop}
use Rattle.names_commands.specs.Options.{has_value, spelled}
use Rattle.names_commands.specs.Program.{Does, DoesCommand, DoesWork, Fault, RejectsLine, RunsLine, RunsDeciding, RunsReasons, RunsTo, UnlessOutOfMemory}
use Rattle.names_commands.specs.FirstGlob.{IsFirst}
use Rattle.names_commands.specs.Why.{IsDecidedText, IsNameAt, IsTextOfFirst, IsTextOfNumbers, Sources, deciding, sources}
use Rattle.names_commands.specs.Operands.{HasPlatform}
use Rattle.names_commands.specs.declared.command.Command.{Command}
use Rattle.names_commands.specs.declared.command.Command.TheVariants.{Help, Version, On}
use Rattle.names_commands.specs.declared.command.Name.{Name as DeclaredName}
use Rattle.names_commands.specs.declared.command.Name.TheVariants as name
use Rattle.names_commands.specs.declared.command.Work.{Work}
use Rattle.names_commands.specs.declared.command.Work.TheVariants.{Each, Picked, Tar, Why}
use Rattle.names_commands.specs.declared.matching.Form.TheVariants as form
use Rattle.names_commands.specs.declared.task.Task.TheVariants.{ListAll, ListWords, Check, Join, JoinWords}
use Rattle.names_commands.specs.declared.fault.Rejection.{Rejection}
use Rattle.names_commands.specs.declared.option.NamesOption.TheVariants as option
use Rattle.os_args.specs.Views.{fault_of}
use Rattle.list_programs.specs.Arguments.{AreGiven, HasOption, operands_of}
use Rattle.test_command_uses.specs.OneFile.{IsExplainedBy, IsReasonOf, explaining, only, usual}
use Rattle.test_command_uses.proofs.GivenWords.{OneValue, OneWord, are_asking, no_fault_of}
use Rattle.test_command_uses.proofs.LineWords.{first, later, not_wasm, not_windows}
use Rattle.test_command_uses.proofs.GivenIgnore.{at_top, given_of, has_operands, is_case, is_unix, is_usual, no_help, no_pattern_files, no_patterns, no_version, not_stated, one_file, only_read, states_one, usual_list}
use Rattle.test_command_uses.proofs.KnownNames.{all_whole, one_ended}
use Rattle.test_command_uses.proofs.EndedRuns.{without_status}

not_list : codes "why" ≡ codes "list" → ⊥
not_list e =
    let n : 119 ≡ 108 = ap (λ l. get_or l 0 0) e in
    let no : 119 ≢ 108 = omega arith in
    no n

not_filter : codes "why" ≡ codes "filter" → ⊥
not_filter e =
    let n : 119 ≡ 102 = ap (λ l. get_or l 0 0) e in
    let no : 119 ≢ 102 = omega arith in
    no n

not_join : codes "why" ≡ codes "join" → ⊥
not_join e =
    let n : 119 ≡ 106 = ap (λ l. get_or l 0 0) e in
    let no : 119 ≢ 106 = omega arith in
    no n

not_check : codes "why" ≡ codes "check" → ⊥
not_check e =
    let n : 119 ≡ 99 = ap (λ l. get_or l 0 0) e in
    let no : 119 ≢ 99 = omega arith in
    no n

not_tar : codes "why" ≡ codes "tar" → ⊥
not_tar e =
    let n : 119 ≡ 116 = ap (λ l. get_or l 0 0) e in
    let no : 119 ≢ 116 = omega arith in
    no n

-- options and operands that begin with the command `why` make up that command
module _ (given : Line) (more : List (List ℕ)) (starts : operands_of given ≡ codes "why" ∷ more) where
  is_word : (c : DeclaredName) (os : Os) (rest : List (List ℕ)) → HasOperands given c os rest → codes "why" ≡ name_word c
  is_word c os rest has = first (sym starts ∙ has.1.0)

  of_work : (os : Os) (work : Work) → MakesUpWork given os work → (work ≡ Why) × MakesUpWork given os Why
  of_work os (Each ListAll) m = absurd (not_list (is_word name.List os m.0.0 m.0.1.0))
  of_work os (Each (ListWords words)) m = absurd (not_list (is_word name.List os m.0.0 m.0.1.0))
  of_work os (Each Check) m = absurd (not_check (is_word name.Check os [] m.0))
  of_work os (Each (Join empty)) m = absurd (not_join (is_word name.Join os [] m.0))
  of_work os (Each JoinWords) m = absurd (not_join (is_word name.Join os [] m.0))
  of_work os Tar m = absurd (not_tar (is_word name.Tar os [] m.0))
  of_work os (Picked form.Line) m = absurd (not_list (is_word name.List os m.0.0 m.0.1.0))
  of_work os (Picked (form.Word words)) m = absurd (not_list (is_word name.List os m.0.0 m.0.1.0))
  of_work os (Picked form.Name) m = absurd (not_filter (is_word name.Filter os m.0 m.1.0))
  of_work os Why m = (refl, m)

  pub is_why : (command : Command) → MakesUp given command → (os : Os) × (command ≡ On os Why) × MakesUpWork given os Why
  is_why (On os work) m = let w = of_work os work m in (os, ap (On os) w.0, w.1)
  is_why Help m = absurd m
  is_why Version m = absurd m

-- where these patterns and files are stated, what decides names is written
abbrev pub Reasons : KnownFiles → Type 0 → Option (List ℕ) → Option (List ℕ) → Option (List ℕ) → Option (List ℕ) → Result ⊤ Fault → ListOptions → ℕ → List (List ℕ) → List (List ℕ) → Bool → List (List ℕ) → Type 0
Reasons known A input left old new answer list plain globs pattern_files folds files = UnlessOutOfMemory (RunsReasons known A (strings Unix) (record { command = On Unix Why; list = list; plain = plain; globs = globs; pattern_files = pattern_files; files = files; inverted = false; case_insensitive = folds; excluded = []; exit_status = false }) Unix) input left old new answer

module _ (known : KnownFiles) (A : Type 0) (file : List ℕ) (input left old new : Option (List ℕ)) (answer : Result ⊤ Fault) where
  -- the line of the file that decides each name is written
  abbrev pub Explains : Type 0
  Explains = Reasons known A input left old new answer usual 0 [] [] false (file ∷ [])

  module _ (command platform value : Bor (List ℕ)) (is_command : command.now ≡ codes "why") (is_platform : platform.now ≡ codes "unix") (is_file : value.now ≡ file) (plain : Lacks 0x3D file) where
    abbrev given : Line
    given = given_of false command platform value

    decided : (requested : Requested) → requested.list ≡ usual → StatesPicks given requested → UnlessOutOfMemory (RunsReasons known A (strings Unix) requested Unix) input left old new answer → Explains
    decided requested is_usual states runs =
        let files_are : requested.files ≡ file ∷ [] = one_file false command platform value requested.files states.1.0.0 ∙ ap (λ x. x ∷ []) is_file in
        let cased = is_case false command platform value requested.case_insensitive states.1.1.1.0 in
        let none = no_patterns false command platform value is_platform requested.plain requested.globs states.0.0 in
        let unread = no_pattern_files false command platform value requested.pattern_files states.0.1 in
        let These = Reasons known A input left old new answer in
        subst (λ m. These m 0 [] [] false (file ∷ [])) is_usual
        (subst (λ plain. These requested.list plain [] [] false (file ∷ [])) none.0
        (subst (λ globs. These requested.list requested.plain globs [] false (file ∷ [])) none.1
        (subst (λ files. These requested.list requested.plain requested.globs files false (file ∷ [])) unread
        (subst (λ folds. These requested.list requested.plain requested.globs requested.pattern_files folds (file ∷ [])) cased
        (subst (λ files. These requested.list requested.plain requested.globs requested.pattern_files requested.case_insensitive files) files_are runs)))))

    operands : HasOperands given name.Why Unix []
    operands = has_operands false command platform value name.Why is_command is_platform

    by_platform : (os : Os) (requested : Requested) → codes "unix" ≡ os_word os → requested.list ≡ usual → StatesPicks given requested → DoesWork known A (strings os) requested os Why input left old new answer → Explains
    by_platform Unix requested e listed states runs =
        let unstated : requested.exit_status ≡ false = not_stated false command platform value option.ExitStatus (λ e. cc) (λ e. cc) requested.exit_status states.1.1.1.1.1 in
        decided requested listed states (without_status (UnlessOutOfMemory (RunsReasons known A (strings Unix) requested Unix)) requested.exit_status input left old new answer unstated runs)
    by_platform Windows requested e listed states runs = absurd (not_windows e)
    by_platform Wasm requested e listed states runs = absurd (not_wasm e)

    by_command : (command : Command) (requested : Requested) → requested.list ≡ usual → StatesPicks given requested → MakesUp given command → DoesCommand known A requested command input left old new answer → Explains
    by_command made requested listed states m does =
        let why = is_why given (platform.now ∷ []) (ap (λ x. x ∷ platform.now ∷ []) is_command) made m in
        let has = why.2.1.0 in
        by_platform why.0 requested (is_unix false command platform value is_platform why.0 why.2.0 (subst (λ after. HasPlatform after why.0 why.2.0) (sym (later has.1.0)) has.1.1)).0 listed states (subst (λ c. DoesCommand known A requested c input left old new answer) why.1 does)

    by_request : (requested : Requested) → IsRequestFor given requested → Does known A requested input left old new answer → Explains
    by_request requested (inl requests) does = absurd (no_help false command platform value requests.0)
    by_request requested (inr requests) does = by requests.1
      where
        by : ((HasOption option.Version given × (requested.command ≡ Version)) ⊎ ((¬ (HasOption option.Version given)) × (IsListed given requested.list × (MakesUp given requested.command × StatesPicks given requested)))) → Explains
        by (inl v) = absurd (no_version false command platform value v.0)
        by (inr c) = by_command requested.command requested (usual_list false command platform value requested.list c.1.0) c.1.1.1 c.1.1.0 does

    -- some command has them
    states_ignore : HasOption option.Ignore given
    states_ignore = inr (inr (inl refl))

    makes_up : MakesUp given (On Unix Why)
    makes_up = ([], (operands, ((tt, (tt, (tt, tt))), (tt, (inl (inr (inr (inl states_ignore))), ((λ h. inr (inr (inl states_ignore))), λ h. tt))))))

    some : (requested : Requested) × IsRequestFor given requested
    some = (record { command = On Unix Why; list = usual; plain = 0; globs = []; pattern_files = []; files = value.now ∷ []; inverted = false; case_insensitive = false; excluded = []; exit_status = false }, inr (no_help false command platform value, inr (no_version false command platform value, (is_usual false command platform value, (makes_up, states_one false command platform value is_platform (subst (Lacks 0x3D) (sym is_file) plain) (On Unix Why) usual)))))

    not_rejected : RejectsLine known A given input left old new answer → ⊥
    not_rejected r = r.2.0.0.no_request some.0 some.1

    of_line : RunsLine known A given input left old new answer → Explains
    of_line (inl r) = absurd (not_rejected r)
    of_line (inr does) = by_request does.0 does.1.0 does.1.1

-- what the program does for the words
explains : OneWord → OneValue → (known : KnownFiles) (A : Type 0) (file : List ℕ) → Lacks 0x3D file → (words : List (List ℕ)) (input left old new : Option (List ℕ)) (answer : Result ⊤ Fault) → words ≡ explaining file → RunsTo known A words input left old new answer → Explains known A file input left old new answer
explains one_word one_value known A file plain words input left old new answer are runs = by (subst (λ w. RunsTo known A w input left old new answer) are runs)
  where
    line : (given : Line) → AreGiven spelled has_value (explaining file) given → RunsLine known A given input left old new answer → Explains known A file input left old new answer
    line given read runs =
        let is = are_asking one_word one_value name.Why false file given read in
        of_line known A file input left old new answer is.command is.platform is.value is.command_is is.platform_is is.value_is plain (subst (λ g. RunsLine known A g input left old new answer) is.given_are runs)

    by : RunsTo known A (explaining file) input left old new answer → Explains known A file input left old new answer
    by (inl memory) = inl memory
    by (inr (inl rejected)) = absurd (no_fault_of one_word one_value name.Why false file (fault_of rejected.0) rejected.2.0.0)
    by (inr (inr does)) = line does.0 does.1.0 does.1.1

drop_none : (n : ℕ) (value : List ℕ) (after : List (List ℕ)) → drop n [] ≡ value ∷ after → ⊥
drop_none zero value after e = let never : [] ≡ value ∷ after = e in cc
drop_none (suc n) value after e = let never : [] ≡ value ∷ after = e in cc

pub none_before : {X : Type 0} (before : List X) (x : X) (after : List X) → [] ≡ before ++ x ∷ after → ⊥
none_before [] x after e = cc
none_before (y ∷ before) x after e = let never : [] ≡ y ∷ (before ++ x ∷ after) = e in cc

-- the only file is the first, and its name is printed
only_name : (file : List ℕ) → Lacks 0x3D file → (index : ℕ) (file_name : List ℕ) → IsNameAt (file ∷ []) index file_name → (index ≡ 0) × (file_name ≡ file)
only_name file plain zero file_name at =
    let same : at.value ≡ file = sym (first at.at) in
    (refl, (at_top at.value at.directory file_name (subst (Lacks 0x3D) (sym same) plain) at.states).1 ∙ same)
only_name file plain (suc index) file_name at = absurd (drop_none index at.value at.after at.at)

-- what is written for one name
module _ (A : Type 0) (file bytes item : List ℕ) (plain : Lacks 0x3D file) (whole : Lacks 0 item) (left old new : Option (List ℕ)) where
  abbrev First : List ℕ → Option ℕ → Type 0
  First = IsFirst (strings Unix) (options_of Unix false) []

  abbrev from : Sources
  from = sources (file ∷ []) 0 []

  no_first : (text : List ℕ) (first : Option ℕ) → First item first → IsTextOfFirst (strings Unix) 0 [] item first text → text ≡ []
  no_first text None f is = is
  no_first text (Some index) f is = absurd (none_before f.before f.one f.after f.joined)

  reason_of : (files : List (File A)) (text : List ℕ) (numbers : Option (ℕ × ℕ)) → IsTextOfNumbers (strings Unix) First from files item numbers text → IsReasonOf file files item text numbers
  reason_of files text None is = no_first text is.0 is.1.0 is.1.1
  reason_of files text (Some at) is =
      let named = only_name file plain at.0 is.file_name is.file_is in
      (is.pattern, is.file_escape, is.pattern_escape, is.escape, subst (λ n. HasText files n at.1 is.pattern) named.0 is.pattern_is, subst (λ f. IsLineEscape unix.ghosts.units f is.file_escape) named.1 is.file_shown, is.pattern_shown, is.escape_is, named.0, is.text_is)

  known_decided : (files : List (File A)) (output : List ℕ) → IsOutput (deciding (strings Unix) First usual from files) (item ++ 0 ∷ []) output → IsFromTop item × IsDecidedText (strings Unix) First from files item output
  known_decided files output o =
      let rules = deciding (strings Unix) First usual from files in
      let one = one_ended rules o.entries item whole (λ never. never) o.items (all_whole rules o.entries o.are) in
      let entry = (subst (λ es. AllByRecursion (IsEntry rules) es) one.1 o.are).0 in
      let is : output ≡ one.0 = o.written ∙ ap texts_of one.1 ∙ append-nil one.0 in
      (entry.text.1.1.0 refl, subst (IsDecidedText (strings Unix) First from files item) (sym is) entry.text.1.1.1)

  abbrev Written : Result ⊤ Fault → Type 0
  Written answer = OnOk answer ((text : List ℕ) × (IsExplainedBy A file bytes item text × Appends old new text))

  err_written : (answer : Result ⊤ Fault) (fault : Fault) → answer ≡ Err fault → Written answer
  err_written answer fault e = subst Written (sym e) tt

  run_written : (files : List (File A)) → AreRead (only file bytes) false (file ∷ []) files → (run : Result ⊤ (ListFault Rejection)) → IsRun (deciding (strings Unix) First usual from files) (Some (item ++ 0 ∷ [])) left old new run → Written (answer_of OfList run)
  run_written files read (Err fault) is = tt
  run_written files read (Ok done) is =
      let w = is.written in
      let said = known_decided files w.0 w.1.0 in
      (w.0, (record { from_top = said.0; files = files; only = only_read false file bytes files plain read; numbers = said.1.numbers; decided = said.1.decided; reason = reason_of files w.0 said.1.numbers said.1.text_is }, w.1.1))

  written : (answer : Result ⊤ Fault) → Explains (only file bytes) A file (Some (item ++ 0 ∷ [])) left old new answer → Written answer
  written answer (inl memory) = err_written answer _ memory.0
  written answer (inr (inl fault)) = err_written answer _ fault.2.0
  written answer (inr (inr compiled)) = by (subst (λ w. RunsDeciding (only file bytes) A (strings Unix) stated (IsFirst (strings Unix) (options_of Unix false) w) (Some (item ++ 0 ∷ [])) left old new answer) compiled.1 compiled.2)
    where
      stated : Requested
      stated = record { command = On Unix Why; list = usual; plain = 0; globs = []; pattern_files = []; files = file ∷ []; inverted = false; case_insensitive = false; excluded = []; exit_status = false }

      by : RunsDeciding (only file bytes) A (strings Unix) stated First (Some (item ++ 0 ∷ [])) left old new answer → Written answer
      by (inl unread) = err_written answer _ unread.2.0
      by (inr ran) = subst Written (sym ran.2.1.1) (run_written ran.0 ran.1 ran.2.0 ran.2.1.0)

-- what the whole program writes for one name with its end, unless memory is refused before it runs
module _ (one_word : OneWord) (one_value : OneValue) (A : Type 0) (file bytes item : List ℕ) (plain : Lacks 0x3D file) (whole : Lacks 0 item) (words : List (List ℕ)) (words_are : words ≡ explaining file) (left old new : Option (List ℕ)) where
  pub program_explained : {X : Type 0} (names : List ℕ) (outcome answer : Result ⊤ Fault) → names ≡ item ++ 0 ∷ [] → answer ≡ outcome → ((outcome ≡ Err (OfList (Run Memory))) × X) ⊎ RunsTo (only file bytes) A words (Some names) left old new outcome → OnOk answer ((text : List ℕ) × (IsExplainedBy A file bytes item text × Appends old new text))
  program_explained names outcome answer ended e (inl memory) = err_written A file bytes item plain whole left old new answer _ (e ∙ memory.0)
  program_explained names outcome answer ended e (inr runs) = subst (Written A file bytes item plain whole left old new) (sym e) (written A file bytes item plain whole left old new outcome (subst (λ n. Explains (only file bytes) A file (Some n) left old new outcome) ended (explains one_word one_value (only file bytes) A file plain words (Some names) left old new outcome words_are runs)))
