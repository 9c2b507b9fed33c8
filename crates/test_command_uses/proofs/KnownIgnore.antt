-- What the program does for the words that filter names by one ignore file.
use Rattle.std.proofs.Common.{◌≡◌, ◌⊎◌, inl, inr, ℕ, List, [], ◌∷◌, ◌++◌, Bool, false, map, refl, sym, ap, ◌∙◌, subst, Option, Result}
use Rattle.std.specs.Prelude.{codes, ⊤}
use denote.Ref.{Bor}
use Rattle.glob_patterns.specs.declared.options.GlobOptions.{GlobOptions}
use Rattle.os_ignore.specs.declared.file.File.{File}
use Rattle.program_frame.specs.Files.{KnownFiles}
use Rattle.list_programs.specs.Items.{Lacks}
use Rattle.program_frame.specs.Os.{os_word}
use Rattle.program_frame.specs.Strings.{strings}
use Rattle.program_frame.specs.declared.os.Os.{Os}
use Rattle.program_frame.specs.declared.os.Os.TheVariants.{Unix, Windows, Wasm}
use Rattle.names_commands.specs.Command.{Requested, IsRequestFor, HasOperands, IsListed, Line, MakesUp, StatesPicks, options_of, sources_of}
use Rattle.names_commands.specs.Matching.{AreWrittenOut, IsChosen, IsMatched, IsPicked}
use Rattle.names_commands.specs.Options.{has_value, spelled}
use Rattle.names_commands.specs.Operands.{HasPlatform}
use Rattle.names_commands.specs.PatternFiles.{ArePatternsOf, IsUnreadOf, PatternLine, text_of as pattern_text}
use Rattle.names_commands.specs.Program.{Does, DoesCommand, DoesWork, Fault, IsOfGlobs, IsOfPicks, RejectsLine, RunsBut, RunsLine, RunsPicked, RunsTo, UnlessOutOfMemory}
use Rattle.names_commands.specs.declared.command.Command.{Command}
use Rattle.names_commands.specs.declared.command.Command.TheVariants.{Version, On}
use Rattle.names_commands.specs.declared.command.Name.TheVariants as name
use Rattle.names_commands.specs.declared.command.Work.TheVariants.{Picked}
use Rattle.names_commands.specs.declared.matching.Form.TheVariants.{Name}
use Rattle.names_commands.specs.declared.option.NamesOption.TheVariants as option
use Rattle.os_args.specs.Views.{fault_of}
use Rattle.list_programs.specs.Arguments.{AreGiven, HasOption, operands_of}
use Rattle.test_command_uses.specs.OneFile.{filtering, usual}
use Rattle.test_command_uses.proofs.EndedRuns.{without_status}
use Rattle.test_command_uses.proofs.GivenIgnore.{given_of, has_operands, is_case, is_unix, is_usual, no_help, no_pattern_files, no_patterns, no_values, no_version, not_stated, one_file, states_one, usual_list}
use Rattle.test_command_uses.proofs.GivenWords.{OneValue, OneWord, are_asking, case_flags, no_fault_of}
use Rattle.test_command_uses.proofs.LineWords.{case_fits, is_filter, later, not_wasm, not_windows}

-- all names are picked, but for those that the files ignore
abbrev pub IsLeftBy : {A : Type 0} → Bool → List (File A) → List ℕ → Type 0
IsLeftBy folds files = IsPicked false (IsChosen (strings Unix) [] (options_of Unix folds) []) (IsMatched (strings Unix) (options_of Unix folds) []) files

module _ (known : KnownFiles) (A : Type 0) (folds : Bool) (file : List ℕ) (input left old new : Option (List ℕ)) (answer : Result ⊤ Fault) where
  -- they are written
  abbrev pub Filters : Type 0
  Filters = UnlessOutOfMemory (RunsBut known A (strings Unix) Name usual false folds (IsChosen (strings Unix) [] (options_of Unix folds) []) (IsMatched (strings Unix) (options_of Unix folds) []) (file ∷ [])) input left old new answer

  no_fault : {X : Type 0} (before after : List X) (x : X) → [] ≡ before ++ x ∷ after → ⊥
  no_fault [] after x e = cc
  no_fault (y ∷ before) after x e = let never : [] ≡ y ∷ (before ++ x ∷ after) = e in cc

  -- no pattern has a fault where there is none
  no_globs : (o : GlobOptions) (requested : Requested) → requested.globs ≡ [] → requested.excluded ≡ [] → (lines : List PatternLine) → lines ≡ [] → (why : Fault) → IsOfGlobs (strings Unix) o requested lines why → ⊥
  no_globs o requested globs excluded lines none why (inl of) = no_fault of.2.before of.2.after of.0 (sym none ∙ of.2.joined)
  no_globs o requested globs excluded lines none why (inr (inl of)) = no_fault of.2.before of.2.after of.2.text (sym globs ∙ of.2.joined)
  no_globs o requested globs excluded lines none why (inr (inr (inl of))) = no_fault of.1.4.before of.1.4.after of.1.4.text (sym (ap (map pattern_text) none) ∙ of.1.4.joined)
  no_globs o requested globs excluded lines none why (inr (inr (inr of))) = no_fault of.1.2.before of.1.2.after of.1.2.text (sym excluded ∙ of.1.2.joined)

  no_picks : (o : GlobOptions) (requested : Requested) → requested.globs ≡ [] → requested.pattern_files ≡ [] → requested.excluded ≡ [] → (why : Fault) → IsOfPicks known A (strings Unix) requested o why → ⊥
  no_picks o requested globs none excluded why (inl unread) = subst (λ names. IsUnreadOf known 1 names unread.0) none unread.1
  no_picks o requested globs none excluded why (inr read) = no_globs o requested globs excluded read.0 (subst (λ names. ArePatternsOf known 1 names read.0) none read.1) why read.2

  ran : (requested : Requested) → requested.globs ≡ [] → requested.pattern_files ≡ [] → requested.excluded ≡ [] → requested.list ≡ usual → requested.inverted ≡ false → requested.case_insensitive ≡ folds → requested.files ≡ file ∷ [] → RunsPicked known A (strings Unix) requested Unix Name input left old new answer → Filters
  ran requested globs none_read excluded list kept cased files (inl fault) = absurd (no_picks (options_of Unix requested.case_insensitive) requested globs none_read excluded fault.0 fault.1)
  ran requested globs none_read excluded list kept cased files (inr compiled) =
      let lines = compiled.2.0 in
      let no_lines : lines ≡ [] = subst (λ names. ArePatternsOf known 1 names lines) none_read compiled.2.1.0 in
      let texts : requested.globs ++ map pattern_text lines ≡ [] = ap (λ x. x ++ map pattern_text lines) globs ∙ ap (map pattern_text) no_lines in
      let sources : sources_of requested ≡ [] = ap (λ x. x ++ requested.pattern_files) globs ∙ none_read in
      let none : compiled.0 ≡ [] = subst (λ texts. AreWrittenOut (strings Unix) (options_of Unix requested.case_insensitive) texts compiled.0) texts compiled.2.1.1 in
      let without : compiled.1 ≡ [] = subst (λ texts. AreWrittenOut (strings Unix) (options_of Unix requested.case_insensitive) texts compiled.1) excluded compiled.3.0 in
      inr (subst (λ f. RunsBut known A (strings Unix) Name usual false folds (IsChosen (strings Unix) [] (options_of Unix folds) []) (IsMatched (strings Unix) (options_of Unix folds) []) f input left old new answer) files
      (subst (λ v. RunsBut known A (strings Unix) Name usual v folds (IsChosen (strings Unix) [] (options_of Unix folds) []) (IsMatched (strings Unix) (options_of Unix folds) []) requested.files input left old new answer) kept
      (subst (λ m. RunsBut known A (strings Unix) Name m requested.inverted folds (IsChosen (strings Unix) [] (options_of Unix folds) []) (IsMatched (strings Unix) (options_of Unix folds) []) requested.files input left old new answer) list
      (subst (λ w. RunsBut known A (strings Unix) Name requested.list requested.inverted folds (IsChosen (strings Unix) [] (options_of Unix folds) w) (IsMatched (strings Unix) (options_of Unix folds) []) requested.files input left old new answer) none
      (subst (λ s. RunsBut known A (strings Unix) Name requested.list requested.inverted folds (IsChosen (strings Unix) s (options_of Unix folds) compiled.0) (IsMatched (strings Unix) (options_of Unix folds) []) requested.files input left old new answer) sources
      (subst (λ w. RunsBut known A (strings Unix) Name requested.list requested.inverted folds (IsChosen (strings Unix) (sources_of requested) (options_of Unix folds) compiled.0) (IsMatched (strings Unix) (options_of Unix folds) w) requested.files input left old new answer) without
      (subst (λ z. RunsBut known A (strings Unix) Name requested.list requested.inverted z (IsChosen (strings Unix) (sources_of requested) (options_of Unix z) compiled.0) (IsMatched (strings Unix) (options_of Unix z) compiled.1) requested.files input left old new answer) cased compiled.3.1)))))))

  module _ (command platform value : Bor (List ℕ)) (is_command : command.now ≡ codes "filter") (is_platform : platform.now ≡ codes "unix") (is_file : value.now ≡ file) (plain : Lacks 0x3D file) where
    abbrev given : Line
    given = given_of folds command platform value

    picked : (requested : Requested) → requested.list ≡ usual → StatesPicks given requested → UnlessOutOfMemory (RunsPicked known A (strings Unix) requested Unix Name) input left old new answer → Filters
    picked requested is_usual states (inl memory) = inl memory
    picked requested is_usual states (inr runs) =
        let pattern_files = no_pattern_files folds command platform value requested.pattern_files states.0.1 in
        let globs_are = (no_patterns folds command platform value is_platform requested.plain requested.globs states.0.0).1 in
        let files_are : requested.files ≡ file ∷ [] = one_file folds command platform value requested.files states.1.0.0 ∙ ap (λ x. x ∷ []) is_file in
        let excluded : requested.excluded ≡ [] = no_values folds command platform value option.Exclude (λ e. cc) requested.excluded states.1.1.1.1.0 in
        ran requested globs_are pattern_files excluded is_usual (not_stated folds command platform value option.Invert (λ e. cc) (λ e. cc) requested.inverted states.1.1.0) (is_case folds command platform value requested.case_insensitive states.1.1.1.0) files_are runs

    operands : HasOperands given name.Filter Unix []
    operands = has_operands folds command platform value name.Filter is_command is_platform

    by_platform : (os : Os) (requested : Requested) → codes "unix" ≡ os_word os → requested.list ≡ usual → StatesPicks given requested → DoesWork known A (strings os) requested os (Picked Name) input left old new answer → Filters
    by_platform Unix requested e listed states runs =
        let unstated : requested.exit_status ≡ false = not_stated folds command platform value option.ExitStatus (λ e. cc) (λ e. cc) requested.exit_status states.1.1.1.1.1 in
        picked requested listed states (without_status (UnlessOutOfMemory (RunsPicked known A (strings Unix) requested Unix Name)) requested.exit_status input left old new answer unstated runs)
    by_platform Windows requested e listed states runs = absurd (not_windows e)
    by_platform Wasm requested e listed states runs = absurd (not_wasm e)

    by_command : (command : Command) (requested : Requested) → requested.list ≡ usual → StatesPicks given requested → MakesUp given command → DoesCommand known A requested command input left old new answer → Filters
    by_command made requested listed states m does =
        let filter = is_filter given (platform.now ∷ operands_of (case_flags folds)) (ap (λ x. x ∷ platform.now ∷ operands_of (case_flags folds)) is_command) made m in
        let has = filter.2.1.0 in
        by_platform filter.0 requested (is_unix folds command platform value is_platform filter.0 filter.2.0 (subst (λ after. HasPlatform after filter.0 filter.2.0) (sym (later has.1.0)) has.1.1)).0 listed states (subst (λ c. DoesCommand known A requested c input left old new answer) filter.1 does)

    by_request : (requested : Requested) → IsRequestFor given requested → Does known A requested input left old new answer → Filters
    by_request requested (inl requests) does = absurd (no_help folds command platform value requests.0)
    by_request requested (inr requests) does = by requests.1
      where
        by : ((HasOption option.Version given × (requested.command ≡ Version)) ⊎ ((¬ (HasOption option.Version given)) × (IsListed given requested.list × (MakesUp given requested.command × StatesPicks given requested)))) → Filters
        by (inl v) = absurd (no_version folds command platform value v.0)
        by (inr c) = by_command requested.command requested (usual_list folds command platform value requested.list c.1.0) c.1.1.1 c.1.1.0 does

    -- some command has them
    makes_up : MakesUp given (On Unix (Picked Name))
    makes_up = ([], (operands, ((tt, (tt, (tt, case_fits folds name.Filter tt))), (tt, (inl (inr (inr (inl (inr (inr (inl refl)))))), (λ h. inr (inr (inl (inr (inr (inl refl))))), λ h. tt))))))

    some : (requested : Requested) × IsRequestFor given requested
    some = (record { command = On Unix (Picked Name); list = usual; plain = 0; globs = []; pattern_files = []; files = value.now ∷ []; inverted = false; case_insensitive = folds; excluded = []; exit_status = false }, inr (no_help folds command platform value, inr (no_version folds command platform value, (is_usual folds command platform value, (makes_up, states_one folds command platform value is_platform (subst (Lacks 0x3D) (sym is_file) plain) (On Unix (Picked Name)) usual)))))

    not_rejected : RejectsLine known A given input left old new answer → ⊥
    not_rejected r = r.2.0.0.no_request some.0 some.1

    of_line : RunsLine known A given input left old new answer → Filters
    of_line (inl r) = absurd (not_rejected r)
    of_line (inr does) = by_request does.0 does.1.0 does.1.1

-- what the program does for the words
pub filters : OneWord → OneValue → (known : KnownFiles) (A : Type 0) (folds : Bool) (file : List ℕ) → Lacks 0x3D file → (words : List (List ℕ)) (input left old new : Option (List ℕ)) (answer : Result ⊤ Fault) → words ≡ filtering folds file → RunsTo known A words input left old new answer → Filters known A folds file input left old new answer
filters one_word one_value known A folds file plain words input left old new answer are runs = by (subst (λ w. RunsTo known A w input left old new answer) are runs)
  where
    line : (given : Line) → AreGiven spelled has_value (filtering folds file) given → RunsLine known A given input left old new answer → Filters known A folds file input left old new answer
    line given read runs =
        let is = are_asking one_word one_value name.Filter folds file given read in
        of_line known A folds file input left old new answer is.command is.platform is.value is.command_is is.platform_is is.value_is plain (subst (λ g. RunsLine known A g input left old new answer) is.given_are runs)

    by : RunsTo known A (filtering folds file) input left old new answer → Filters known A folds file input left old new answer
    by (inl memory) = inl memory
    by (inr (inl rejected)) = absurd (no_fault_of one_word one_value name.Filter folds file (fault_of rejected.0) rejected.2.0.0)
    by (inr (inr does)) = line does.0 does.1.0 does.1.1
