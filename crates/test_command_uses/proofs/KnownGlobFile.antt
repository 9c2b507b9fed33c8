-- What the program does for the words that filter names by the patterns of one file, where it has one.
use Rattle.std.proofs.Common.{◌≡◌, ◌≢◌, ◌⊎◌, inl, inr, ℕ, Bool, true, false, List, [], ◌∷◌, ◌++◌, map, nat_eq, cond, refl, sym, ap, ◌∙◌, subst, append-nil, arith, Option, Some, None, Result, Ok, Err}
use Rattle.std.specs.Prelude.{codes, OnOk, ⊤}
use Rattle.std.specs.List.{AllByRecursion}
use Rattle.std.specs.Io.KnownBytes.{Appends}
use Rattle.std.proofs.lemmas.Bool.{ne_eqb}
use Rattle.std.proofs.lemmas.List.Elements.{All-from_recursion}
use Rattle.std.proofs.lemmas.List.Splits.{slice_split_at}
use denote.Ref.{Bor}
use Rattle.glob_patterns.specs.Letters.{letters_of}
use Rattle.glob_patterns.specs.Options as options
use Rattle.glob_text.specs.Marks.{Mark}
use Rattle.glob_text.specs.Meaning.{MatchesWrittenOut}
use Rattle.glob_text.specs.Texts as pattern
use Rattle.os_ignore.specs.Components.{pieces}
use Rattle.os_ignore.specs.Verdicts.{IsVerdict, is_ignored}
use Rattle.os_ignore.specs.declared.file.File.{File}
use Rattle.os_ignore.specs.declared.verdict.Verdict.{Verdict}
use Rattle.os_ignore.specs.declared.verdict.Verdict.TheVariants.{Neither, Ignored, TakenIn}
use Rattle.os_str_bytes.specs.UnixPlatform.TheImpl as unix
use Rattle.program_frame.specs.Files.{KnownFiles}
use Rattle.program_frame.specs.Os.{os_word}
use Rattle.program_frame.specs.Strings.{strings}
use Rattle.program_frame.specs.declared.fault.Failure.TheVariants.{Memory}
use Rattle.program_frame.specs.declared.os.Os.{Os}
use Rattle.program_frame.specs.declared.os.Os.TheVariants.{Unix, Windows, Wasm}
use Rattle.list_programs.specs.Arguments.{HasOption}
use Rattle.list_programs.specs.Items.{Lacks}
use Rattle.list_programs.specs.ListRun.{IsRun, Runs, answer_of}
use Rattle.list_programs.specs.declared.fault.ListFault.{ListFault}
use Rattle.list_programs.specs.declared.fault.ListFault.TheVariants.{Run}
use Rattle.list_programs.specs.declared.options.ListOptions.{ListOptions}
use Rattle.list_programs.specs.declared.program_fault.Fault.TheVariants.{List as OfList}
use Rattle.names_commands.specs.Command.{Requested, IsRequestFor, IsListed, Line, MakesUp, StatesPicks}
use Rattle.names_commands.specs.Ignoring.{IsIgnored}
use Rattle.names_commands.specs.Matching.{AreWrittenOut, IsChosen, IsMatched, IsPicked, picking}
use Rattle.names_commands.specs.Operands.{HasPlatform}
use Rattle.names_commands.specs.PatternFiles.{ArePatternsIn, ArePatternsOf, IsLineEnd, PatternLine, line_text, numbered, text_of, without_return}
use Rattle.names_commands.specs.Program.{Does, DoesCommand, DoesWork, Fault, RunsBut, RunsLine, RunsPicked, RunsTo, UnlessOutOfMemory}
use Rattle.names_commands.specs.Why.{numbers_of}
use Rattle.names_commands.specs.declared.command.Command.TheVariants.{On, Version}
use Rattle.names_commands.specs.declared.command.Work.TheVariants.{Picked}
use Rattle.names_commands.specs.declared.fault.Rejection.{Rejection}
use Rattle.names_commands.specs.declared.matching.Form.TheVariants.{Name}
use Rattle.names_commands.specs.declared.option.NamesOption.TheVariants as option
use Rattle.test_command_uses.specs.OneFile.{only, usual}
use Rattle.test_command_uses.specs.OneGlob.{unix_options}
use Rattle.test_command_uses.specs.OneGlobFile.{IsKeptBy, IsOneLine, filtering_from}
use Rattle.test_command_uses.proofs.GivenGlobFile.{are_filtering, given_from, is_unix, no_other, no_patterns, no_values, not_stated, one_file, usual_list}
use Rattle.test_command_uses.proofs.GivenWords.{OneValue, OneWord}
use Rattle.test_command_uses.proofs.EndedRuns.{without_status}
use Rattle.test_command_uses.proofs.KnownGlob.{no_files, of_verdict}
use Rattle.test_command_uses.proofs.KnownNames.{ended_filtered}
use Rattle.test_command_uses.proofs.LineWords.{is_filter, later, not_wasm, not_windows}

-- the text is the only line of a file that it and a newline make up
lacks_nul : (text : List ℕ) → Lacks 0 text → Lacks 0 (text ++ 0x0A ∷ [])
lacks_nul [] l = (omega arith, tt)
lacks_nul (b ∷ text) l = (l.0, lacks_nul text l.1)

by_newline : (text : List ℕ) → Lacks 0 text → (end : ℕ) → IsLineEnd (text ++ 0x0A ∷ []) end → end ≡ 0x0A
by_newline text l end (inl nul) = absurd (nul.1 (lacks_nul text l))
by_newline text l end (inr newline) = newline.0

no_newline : (text : List ℕ) → Lacks 0x0A text → AllByRecursion (λ b. nat_eq b 0x0A ≡ false) text
no_newline [] l = tt
no_newline (b ∷ text) l = (ne_eqb b 0x0A l.0, no_newline text l.1)

two_pieces : (text : List ℕ) → Lacks 0x0A text → pieces 0x0A (text ++ 0x0A ∷ []) ≡ text ∷ [] ∷ []
two_pieces text l = slice_split_at (λ b. nat_eq b 0x0A) text 0x0A [] (All-from_recursion (λ b. nat_eq b 0x0A ≡ false) text (no_newline text l)) refl

no_return : (text : List ℕ) → Lacks 0x0D text → without_return text ≡ text
no_return [] l = refl
no_return (b ∷ []) l = ap (λ v. cond v [] (b ∷ [])) (ne_eqb b 0x0D l.0)
no_return (b ∷ c ∷ text) l = ap (λ x. b ∷ x) (no_return (c ∷ text) l.1)

one_pattern : (text : List ℕ) → text ≢ [] → map text_of (numbered 1 1 (text ∷ [] ∷ [])) ≡ text ∷ []
one_pattern [] some = absurd (some refl)
one_pattern (b ∷ text) some = refl

only_line : (text : List ℕ) → IsOneLine text → (patterns : List PatternLine) → ArePatternsIn 1 (text ++ 0x0A ∷ []) patterns → map text_of patterns ≡ text ∷ []
only_line text line patterns are =
    let content : List ℕ = text ++ 0x0A ∷ [] in
    let lines : map (line_text 0x0A) (pieces 0x0A content) ≡ text ∷ [] ∷ [] = ap (map (line_text 0x0A)) (two_pieces text line.1.1.0) ∙ ap (λ x. x ∷ [] ∷ []) (no_return text line.1.1.1) in
    let by_end = ap (λ end. numbered 1 1 (map (line_text end) (pieces end content))) (by_newline text line.1.0 are.0 are.1.0) in
    ap (map text_of) (are.1.1 ∙ by_end ∙ ap (numbered 1 1) lines) ∙ one_pattern text line.0

-- where no file was read, no name is ignored
never_ignored : (verdict : Verdict) → numbers_of verdict ≡ None → is_ignored verdict ≡ true → ⊥
never_ignored Neither none is = let never : false ≡ true = is in cc
never_ignored (Ignored file line) none is = let never : ◌≡◌ {A = Option (ℕ × ℕ)} (Some (file, line)) None = none in cc
never_ignored (TakenIn file line) none is = let never : false ≡ true = is in cc

not_ignored : (A : Type 0) (files : List (File A)) (name : List ℕ) → files ≡ [] → ¬ (IsIgnored files name)
not_ignored A files name none i = never_ignored i.verdict (of_verdict A i.path i.is_dir i.verdict (subst (λ f. IsVerdict f i.path i.is_dir i.verdict) none i.verdict_is)) i.ignored

module _ (A : Type 0) (file bytes glob item : List ℕ) (line : IsOneLine glob) (content : bytes ≡ glob ++ 0x0A ∷ []) (whole : Lacks 0 item) (left old new : Option (List ℕ)) where
  abbrev pub Written : Result ⊤ Fault → Type 0
  Written answer = OnOk answer ((text : List ℕ) × (IsKeptBy glob item text × Appends old new text))

  err_written : (answer : Result ⊤ Fault) (fault : Fault) → answer ≡ Err fault → Written answer
  err_written answer fault e = subst Written (sym e) tt

  -- what is written for one name
  module _ (written : List (List Mark)) (are : pattern.AreWrittenOut unix.ghosts.well_formed (letters_of unix.ghosts.units) (options.syntax_of unix_options) glob written) where
    abbrev Matches : Type 0
    Matches = MatchesWrittenOut (options.options_of unix_options) written (letters_of unix.ghosts.units item)

    abbrev IsLeft : List (File A) → List ℕ → Type 0
    IsLeft files = IsPicked false (IsChosen (strings Unix) (file ∷ []) unix_options (written ∷ [])) (IsMatched (strings Unix) unix_options []) files

    one_matches : IsMatched (strings Unix) unix_options (written ∷ []) item → Matches
    one_matches (inl matches) = matches
    one_matches (inr never) = absurd never

    of_text : (files : List (File A)) → files ≡ [] → (text : List ℕ) → (IsLeft files item × (text ≡ item ++ 0 ∷ [])) ⊎ ((¬ (IsLeft files item)) × (text ≡ [])) → IsKeptBy glob item text
    of_text files none text (inl seen) = record { written = written; are = are; kept = λ m. seen.1; nothing = λ n. absurd (n (one_matches seen.0.0.0)) }
    of_text files none text (inr unseen) = record { written = written; are = are; kept = λ m. absurd (unseen.0 ((inl m, not_ignored A files item none), λ never. never)); nothing = λ n. unseen.1 }

    run_written : (files : List (File A)) → files ≡ [] → (run : Result ⊤ (ListFault Rejection)) → IsRun (picking (strings Unix) Name usual false (IsLeft files)) (Some (item ++ 0 ∷ [])) left old new run → Written (answer_of OfList run)
    run_written files none (Err fault) is = tt
    run_written files none (Ok done) is =
        let w = is.written in
        let said = ended_filtered (strings Unix) false (IsLeft files) item w.0 whole w.1.0 in
        (w.0, (of_text files none w.0 said.1, w.1.1))

    of_runs : (answer : Result ⊤ Fault) (files : List (File A)) → files ≡ [] → Runs (picking (strings Unix) Name usual false (IsLeft files)) OfList (Some (item ++ 0 ∷ [])) left old new answer → Written answer
    of_runs answer files none ran = subst Written (sym ran.1.1) (run_written files none ran.0 ran.1.0)

  -- where this file is stated and no other option is
  module _ (answer : Result ⊤ Fault) where
    abbrev known : KnownFiles
    known = only file bytes

    -- what is done where these patterns and files are stated
    abbrev Picks : ListOptions → ℕ → List (List ℕ) → List (List ℕ) → List (List ℕ) → Bool → Bool → List (List ℕ) → Type 0
    Picks list plain globs pattern_files files inverted folds excluded = RunsPicked known A (strings Unix) (record { command = On Unix (Picked Name); list = list; plain = plain; globs = globs; pattern_files = pattern_files; files = files; inverted = inverted; case_insensitive = folds; excluded = excluded; exit_status = false }) Unix Name (Some (item ++ 0 ∷ [])) left old new answer

    abbrev RunsBy : List (List (List Mark)) → List (List (List Mark)) → Type 0
    RunsBy written excluded = RunsBut known A (strings Unix) Name usual false false (IsChosen (strings Unix) (file ∷ []) unix_options written) (IsMatched (strings Unix) unix_options excluded) [] (Some (item ++ 0 ∷ [])) left old new answer

    texts_are : (patterns : List PatternLine) → ArePatternsOf known 1 (file ∷ []) patterns → map text_of patterns ≡ glob ∷ []
    texts_are patterns of =
        let own = only_line glob line of.1 (subst (λ c. ArePatternsIn 1 c of.1) (of.3.0.1 ∙ content) of.3.1.0) in
        ap (map text_of) (of.3.1.1.1 ∙ ap (λ x. of.1 ++ x) of.3.1.1.0 ∙ append-nil of.1) ∙ own

    by_run : (written : List (List Mark)) → pattern.AreWrittenOut unix.ghosts.well_formed (letters_of unix.ghosts.units) (options.syntax_of unix_options) glob written → RunsBy (written ∷ []) [] → Written answer
    by_run written are (inl unread) = err_written answer _ unread.2.0
    by_run written are (inr ran) = of_runs written are answer ran.0 (no_files A known ran.0 ran.1) ran.2

    by_written : (written : List (List (List Mark))) → AreWrittenOut (strings Unix) unix_options (glob ∷ []) written → RunsBy written [] → Written answer
    by_written [] are runs = absurd are
    by_written (one ∷ rest) are runs = by_run one are.0 (subst (λ rest. RunsBy (one ∷ rest) []) are.1 runs)

    by_picks : (plain : ℕ) → Picks usual plain [] (file ∷ []) [] false false [] → Written answer
    by_picks plain (inl fault) = err_written answer _ fault.2.0
    by_picks plain (inr compiled) =
        let texts = texts_are compiled.2.0 compiled.2.1.0 in
        by_written compiled.0 (subst (λ texts. AreWrittenOut (strings Unix) unix_options texts compiled.0) texts compiled.2.1.1) (subst (λ excluded. RunsBy compiled.0 excluded) compiled.3.0 compiled.3.1)

    module _ (command platform value : Bor (List ℕ)) (is_command : command.now ≡ codes "filter") (is_platform : platform.now ≡ codes "unix") (is_file : value.now ≡ file) where
      abbrev given : Line
      given = given_from command platform value

      picked : (requested : Requested) → requested.list ≡ usual → StatesPicks given requested → UnlessOutOfMemory (RunsPicked known A (strings Unix) requested Unix Name) (Some (item ++ 0 ∷ [])) left old new answer → Written answer
      picked requested is_usual states (inl memory) = err_written answer _ memory.0
      picked requested is_usual states (inr runs) =
          let globs = no_patterns command platform value is_platform requested.plain requested.globs states.0.0 in
          let from : requested.pattern_files ≡ file ∷ [] = one_file command platform value requested.pattern_files states.0.1 ∙ ap (λ x. x ∷ []) is_file in
          let files = no_values command platform value option.Ignore (λ e. cc) requested.files states.1.0.0 in
          let kept = not_stated command platform value option.Invert (λ e. cc) requested.inverted states.1.1.0 in
          let cased = not_stated command platform value option.IgnoreCase (λ e. cc) requested.case_insensitive states.1.1.1.0 in
          let excluded = no_values command platform value option.Exclude (λ e. cc) requested.excluded states.1.1.1.1.0 in
          by_picks requested.plain (subst (λ list. Picks list requested.plain [] (file ∷ []) [] false false []) is_usual
          (subst (λ globs. Picks requested.list requested.plain globs (file ∷ []) [] false false []) globs
          (subst (λ from. Picks requested.list requested.plain requested.globs from [] false false []) from
          (subst (λ files. Picks requested.list requested.plain requested.globs requested.pattern_files files false false []) files
          (subst (λ inverted. Picks requested.list requested.plain requested.globs requested.pattern_files requested.files inverted false []) kept
          (subst (λ folds. Picks requested.list requested.plain requested.globs requested.pattern_files requested.files requested.inverted folds []) cased
          (subst (λ excluded. Picks requested.list requested.plain requested.globs requested.pattern_files requested.files requested.inverted requested.case_insensitive excluded) excluded runs)))))))

      by_platform : (os : Os) (requested : Requested) → codes "unix" ≡ os_word os → requested.list ≡ usual → StatesPicks given requested → DoesWork known A (strings os) requested os (Picked Name) (Some (item ++ 0 ∷ [])) left old new answer → Written answer
      by_platform Unix requested e listed states runs =
          let unstated = not_stated command platform value option.ExitStatus (λ e. cc) requested.exit_status states.1.1.1.1.1 in
          picked requested listed states (without_status (UnlessOutOfMemory (RunsPicked known A (strings Unix) requested Unix Name)) requested.exit_status (Some (item ++ 0 ∷ [])) left old new answer unstated runs)
      by_platform Windows requested e listed states runs = absurd (not_windows e)
      by_platform Wasm requested e listed states runs = absurd (not_wasm e)

      by_request : (requested : Requested) → IsRequestFor given requested → Does known A requested (Some (item ++ 0 ∷ [])) left old new answer → Written answer
      by_request requested (inl requests) does = absurd (no_other command platform value option.Help (λ e. cc) requests.0)
      by_request requested (inr requests) does = by requests.1
        where
          by : ((HasOption option.Version given × (requested.command ≡ Version)) ⊎ ((¬ (HasOption option.Version given)) × (IsListed given requested.list × (MakesUp given requested.command × StatesPicks given requested)))) → Written answer
          by (inl v) = absurd (no_other command platform value option.Version (λ e. cc) v.0)
          by (inr c) =
              let filter = is_filter given (platform.now ∷ []) (ap (λ x. x ∷ platform.now ∷ []) is_command) requested.command c.1.1.0 in
              let has = filter.2.1.0 in
              let os = (is_unix command platform value is_platform filter.0 filter.2.0 (subst (λ after. HasPlatform after filter.0 filter.2.0) (sym (later has.1.0)) has.1.1)).0 in
              by_platform filter.0 requested os (usual_list command platform value requested.list c.1.0) c.1.1.1 (subst (λ made. DoesCommand known A requested made (Some (item ++ 0 ∷ [])) left old new answer) filter.1 does)

      of_line : RunsLine known A given (Some (item ++ 0 ∷ [])) left old new answer → Written answer
      of_line (inl r) = err_written answer _ r.2.1.0
      of_line (inr does) = by_request does.0 does.1.0 does.1.1

    -- what the program does for the words
    of_words : OneWord → OneValue → RunsTo known A (filtering_from file) (Some (item ++ 0 ∷ [])) left old new answer → Written answer
    of_words one_word one_value (inl memory) = err_written answer _ memory.0
    of_words one_word one_value (inr (inl rejected)) = err_written answer _ rejected.2.1.0
    of_words one_word one_value (inr (inr does)) =
        let is = are_filtering file one_word one_value does.0 does.1.0 in
        of_line is.command is.platform is.value is.command_is is.platform_is is.value_is (subst (λ g. RunsLine known A g (Some (item ++ 0 ∷ [])) left old new answer) is.given_are does.1.1)

-- what the whole program writes for one name with its end, unless memory is refused before it runs
pub program_picked : OneWord → OneValue → (A : Type 0) (file bytes glob item : List ℕ) → IsOneLine glob → bytes ≡ glob ++ 0x0A ∷ [] → Lacks 0 item → (words : List (List ℕ)) → words ≡ filtering_from file → (left old new : Option (List ℕ)) {X : Type 0} (names : List ℕ) (outcome answer : Result ⊤ Fault) → names ≡ item ++ 0 ∷ [] → answer ≡ outcome
    → ((outcome ≡ Err (OfList (Run Memory))) × X) ⊎ RunsTo (only file bytes) A words (Some names) left old new outcome → OnOk answer ((text : List ℕ) × (IsKeptBy glob item text × Appends old new text))
program_picked one_word one_value A file bytes glob item line content whole words are left old new names outcome answer ended e (inl memory) = err_written A file bytes glob item line content whole left old new answer _ (e ∙ memory.0)
program_picked one_word one_value A file bytes glob item line content whole words are left old new names outcome answer ended e (inr runs) =
    subst (Written A file bytes glob item line content whole left old new) (sym e) (of_words A file bytes glob item line content whole left old new outcome one_word one_value (subst (λ n. RunsTo (only file bytes) A (filtering_from file) (Some n) left old new outcome) ended (subst (λ w. RunsTo (only file bytes) A w (Some names) left old new outcome) are runs)))
