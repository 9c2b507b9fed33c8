-- What the program does for the words that request which pattern matches names, where there is one.
use Rattle.std.proofs.Common.{◌≡◌, ◌≢◌, ◌⊎◌, inl, inr, ℕ, ◌+◌, Bool, true, false, ◌↔◌, List, [], ◌∷◌, ◌++◌, length, map, drop, refl, sym, ap, ◌∙◌, subst, append-nil, arith, Option, Some, None, Result, Ok, Err}
use Rattle.std.specs.Prelude.{codes, IsTrue, OnOk, ⊤}
use Rattle.std.specs.List.{AllByRecursion}
use Rattle.std.specs.Io.KnownBytes.{Appends}
use denote.Ref.{Bor}
use Rattle.wtf8_core.specs.Occurrence.{IsPrefix}
use Rattle.glob_patterns.specs.Letters.{letters_of}
use Rattle.glob_patterns.specs.Options as options
use Rattle.glob_text.specs.Marks.{Mark}
use Rattle.glob_text.specs.Meaning.{MatchesWrittenOut}
use Rattle.os_args.specs.Word.{Value, dash, dashes}
use Rattle.os_args.specs.Reading.{Reading, TakesWord, words_left}
use Rattle.os_ignore.specs.Verdicts as rule
use Rattle.os_ignore.specs.Verdicts.{IsOwn, IsVerdict}
use Rattle.os_ignore.specs.declared.file.File.{File}
use Rattle.os_ignore.specs.declared.verdict.Verdict.{Verdict}
use Rattle.os_ignore.specs.declared.verdict.Verdict.TheVariants.{Neither, Ignored, TakenIn}
use Rattle.os_quote.specs.Escape.{IsLineEscape}
use Rattle.os_str_bytes.specs.UnixPlatform.TheImpl as unix
use Rattle.program_frame.specs.Files.{KnownFiles}
use Rattle.program_frame.specs.Os.{os_word}
use Rattle.program_frame.specs.Strings.{strings}
use Rattle.program_frame.specs.declared.fault.Failure.TheVariants.{Memory}
use Rattle.program_frame.specs.declared.os.Os.{Os}
use Rattle.program_frame.specs.declared.os.Os.TheVariants.{Unix, Windows, Wasm}
use Rattle.list_programs.specs.Arguments.{AreValues, HasOption, LastValue, TakesAll}
use Rattle.list_programs.specs.Items.{Lacks, texts_of}
use Rattle.list_programs.specs.ListRun.{IsOutput, IsRun, answer_of}
use Rattle.list_programs.specs.Rules.{IsEntry}
use Rattle.list_programs.specs.declared.arguments.Given.TheVariants.{Operand}
use Rattle.list_programs.specs.declared.fault.ListFault.{ListFault}
use Rattle.list_programs.specs.declared.fault.ListFault.TheVariants.{Run}
use Rattle.list_programs.specs.declared.program_fault.Fault.TheVariants.{List as OfList}
use Rattle.names_commands.specs.Command.{Requested, IsRequestFor, IsListed, IsMax, Line, MakesUp, StatesPicks}
use Rattle.names_commands.specs.FirstGlob.{IsFirst, IsTypedAt}
use Rattle.names_commands.specs.Ignoring.{AreRead, AreAdded, FileRead, value_of}
use Rattle.names_commands.specs.Matching.{AreWrittenOut}
use Rattle.names_commands.specs.Operands.{HasPlatform, first_of}
use Rattle.names_commands.specs.Options.{has_value, spelled}
use Rattle.names_commands.specs.Pick.{ArePatterns, added_before, in_any_folder}
use Rattle.names_commands.specs.Program.{Does, DoesCommand, DoesWork, Fault, RunsDeciding, RunsLine, RunsReasons, RunsTo, UnlessOutOfMemory}
use Rattle.names_commands.specs.Why.{IsDecided, IsDecidedText, IsTextOfFirst, IsTextOfNumbers, Sources, deciding, numbers_of, place_text, sources}
use Rattle.names_commands.specs.declared.command.Command.TheVariants.{On, Version}
use Rattle.names_commands.specs.declared.command.Work.TheVariants.{Why}
use Rattle.names_commands.specs.declared.fault.Rejection.{Rejection}
use Rattle.names_commands.specs.declared.option.NamesOption.{NamesOption}
use Rattle.names_commands.specs.declared.option.NamesOption.TheVariants as option
use Rattle.test_command_uses.specs.OneFile.{usual}
use Rattle.test_command_uses.specs.OneGlob.{IsChosenBy, choosing, unix_options}
use Rattle.test_command_uses.proofs.GivenWords.{OneValue, OneWord, no_end, none_taken, operand_taken}
use Rattle.test_command_uses.proofs.LineWords.{first, later, not_wasm, not_windows}
use Rattle.test_command_uses.proofs.KnownLists.{is_usual_list}
use Rattle.test_command_uses.proofs.KnownNames.{all_whole, one_ended}
use Rattle.test_command_uses.proofs.EndedRuns.{without_status}
use Rattle.test_command_uses.proofs.KnownWhy.{Reasons, is_why, none_before}

head_is : {X : Type 0} {x y : X} {xs ys : List X} → x ∷ xs ≡ y ∷ ys → x ≡ y
head_is e = cc

no_dash : (c : ℕ) (w : List ℕ) → c ≢ 45 → ¬ (IsPrefix dash (c ∷ w))
no_dash c w differs p = differs (head_is p.joined)

-- how the words are read
abbrev at : List ℕ → ℕ → Reading
at glob index = record { given = choosing glob; index = index; pending = []; ended = false; numbers = false; last = None }

-- three operands: the command, the platform and the pattern
pub record AreChoosing (glob : List ℕ) (given : Line) : Type 0 where
  pub command : Bor (List ℕ)
  pub platform : Bor (List ℕ)
  pub pattern : Bor (List ℕ)
  pub given_are : given ≡ Operand command ∷ Operand platform ∷ Operand pattern ∷ []
  pub command_is : command.now ≡ codes "why"
  pub platform_is : platform.now ≡ codes "unix"
  pub pattern_is : pattern.now ≡ glob

-- where the pattern doesn't begin with a dash
module _ (glob : List ℕ) (plain : ¬ (IsPrefix dash glob)) where
  operand_next : (index : ℕ) (word : List ℕ) (more : List (List ℕ)) → words_left (at glob index) ≡ word ∷ more → ¬ (IsPrefix dash word) → TakesWord (at glob index) (Ok (Some (Value word))) (at glob (index + 1))
  operand_next index word more is differs = inr (record {
    none_pending = refl;
    between = at glob index;
    skips = inr (λ s. differs (record { rest = dash; joined = first (sym is ∙ s.first) }), refl);
    word = word;
    more = more;
    next = is;
    read = inr (inr (record { value = refl; whole = refl; operand = inr (inl differs) }));
    same = refl;
  })

  why_next : TakesWord (at glob 0) (Ok (Some (Value (codes "why")))) (at glob 1)
  why_next = operand_next 0 (119 ∷ codes "hy") (codes "unix" ∷ glob ∷ []) refl (no_dash 119 (codes "hy") (omega arith))

  unix_next : TakesWord (at glob 1) (Ok (Some (Value (codes "unix")))) (at glob 2)
  unix_next = operand_next 1 (117 ∷ codes "nix") (glob ∷ []) refl (no_dash 117 (codes "nix") (omega arith))

  glob_next : TakesWord (at glob 2) (Ok (Some (Value glob))) (at glob 3)
  glob_next = operand_next 2 glob [] refl plain

  end_next : TakesWord (at glob 3) (Ok None) (at glob 3)
  end_next = record { none_pending = refl; skips = inr (λ s. let never : [] ≡ dashes ∷ s.more = s.first in cc, refl); none_left = refl }

  module _ (one_word : OneWord) (one_value : OneValue) (read after : Reading) (end : TakesWord read (Ok None) after) where
    fourth : (rest : Line) → TakesAll spelled has_value (at glob 3) rest read → rest ≡ []
    fourth [] t = refl
    fourth (one ∷ rest) t = absurd (none_taken one_word one_value (at glob 3) end_next one t.0 t.1)

    third : (command platform : Bor (List ℕ)) → command.now ≡ codes "why" → platform.now ≡ codes "unix" → (rest : Line) → TakesAll spelled has_value (at glob 2) rest read → AreChoosing glob (Operand command ∷ Operand platform ∷ rest)
    third command platform c p [] t = absurd (no_end one_word one_value (subst (λ r. TakesWord r (Ok None) after) t end) glob_next)
    third command platform c p (one ∷ rest) t =
        let it = operand_taken one_word one_value (at glob 2) (at glob 3) glob glob_next one t.0 t.1 in
        let none = fourth rest (subst (λ r. TakesAll spelled has_value r rest read) it.1.1.1 t.2) in
        record {
          command = command;
          platform = platform;
          pattern = it.0;
          given_are = ap (λ x. Operand command ∷ Operand platform ∷ x ∷ rest) it.1.0 ∙ ap (λ x. Operand command ∷ Operand platform ∷ Operand it.0 ∷ x) none;
          command_is = c;
          platform_is = p;
          pattern_is = it.1.1.0;
        }

    second : (command : Bor (List ℕ)) → command.now ≡ codes "why" → (rest : Line) → TakesAll spelled has_value (at glob 1) rest read → AreChoosing glob (Operand command ∷ rest)
    second command c [] t = absurd (no_end one_word one_value (subst (λ r. TakesWord r (Ok None) after) t end) unix_next)
    second command c (one ∷ rest) t =
        let it = operand_taken one_word one_value (at glob 1) (at glob 2) (codes "unix") unix_next one t.0 t.1 in
        subst (λ x. AreChoosing glob (Operand command ∷ x ∷ rest)) (sym it.1.0)
        (third command it.0 c it.1.1.0 rest (subst (λ r. TakesAll spelled has_value r rest read) it.1.1.1 t.2))

    are_choosing : (given : Line) → TakesAll spelled has_value (at glob 0) given read → AreChoosing glob given
    are_choosing [] t = absurd (no_end one_word one_value (subst (λ r. TakesWord r (Ok None) after) t end) why_next)
    are_choosing (one ∷ rest) t =
        let it = operand_taken one_word one_value (at glob 0) (at glob 1) (codes "why") why_next one t.0 t.1 in
        subst (λ x. AreChoosing glob (x ∷ rest)) (sym it.1.0)
        (second it.0 it.1.1.0 rest (subst (λ r. TakesAll spelled has_value r rest read) it.1.1.1 t.2))

-- operands alone state no option
abbrev operands : List (Bor (List ℕ)) → Line
operands words = map Operand words

none : (words : List (Bor (List ℕ))) (it : NamesOption) → ¬ (HasOption it (operands words))
none [] it h = h
none (word ∷ words) it (inl h) = h
none (word ∷ words) it (inr h) = none words it h

no_values : (words : List (Bor (List ℕ))) (it : NamesOption) (values : List (List ℕ)) → AreValues it (operands words) values → values ≡ []
no_values [] it values k = k
no_values (word ∷ words) it values (inl k) = absurd k.2.0
no_values (word ∷ words) it values (inr k) = no_values words it values k.1

no_last : (words : List (Bor (List ℕ))) (number : List ℕ) → ¬ (LastValue option.Max (operands words) None (Some number))
no_last [] number k = let never : Some number ≡ None = k in cc
no_last (word ∷ words) number (inl k) = k.1.0
no_last (word ∷ words) number (inr k) = no_last words number k.1

usual_max : (words : List (Bor (List ℕ))) (max : ℕ) → IsMax (operands words) max → max ≡ 1048576
usual_max words max (inl m) = m.1
usual_max words max (inr m) = absurd (no_last words m.0 m.1.0)

not_stated : (words : List (Bor (List ℕ))) (it : NamesOption) (stated : Bool) → (IsTrue stated ↔ HasOption it (operands words)) → stated ≡ false
not_stated words it true is = absurd (none words it (is.0 refl))
not_stated words it false is = refl

-- where no file was read, no line decides
module _ (A : Type 0) where
  pub no_files : (known : KnownFiles) (files : List (File A)) → AreRead known false [] files → files ≡ []
  no_files known files r = by r.reads r.values_are r.added
    where
      by : (reads : List FileRead) → [] ≡ map value_of reads → AreAdded false reads [] files → files ≡ []
      by [] e a = a
      by (read ∷ reads) e a = let never : [] ≡ read.value ∷ map value_of reads = e in absurd (cc)

  abbrev nothing : List (File A)
  nothing = []

  of_own : (path : List ℕ) (is_dir : Bool) (verdict : Verdict) → IsOwn nothing path is_dir verdict → numbers_of verdict ≡ None
  of_own path is_dir Neither d = refl
  of_own path is_dir (Ignored file line) d = absurd (none_before d.front d.file d.back d.joined)
  of_own path is_dir (TakenIn file line) d = absurd (none_before d.front d.file d.back d.joined)

  pub of_verdict : (path : List ℕ) (is_dir : Bool) (verdict : Verdict) → IsVerdict nothing path is_dir verdict → numbers_of verdict ≡ None
  of_verdict path is_dir verdict (rule.hidden h) = of_own h.front true verdict h.own
  of_verdict path is_dir verdict (rule.own shown d) = of_own path is_dir verdict d

  no_line : (files : List (File A)) (name : List ℕ) (numbers : Option (ℕ × ℕ)) → files ≡ [] → IsDecided files name numbers → numbers ≡ None
  no_line files name numbers none d = d.numbers_are ∙ of_verdict d.path d.is_dir d.verdict (subst (λ f. IsVerdict f d.path d.is_dir d.verdict) none d.verdict_is)

tail_is : {X : Type 0} {x y : X} {xs ys : List X} → x ∷ xs ≡ y ∷ ys → xs ≡ ys
tail_is e = cc

-- the only pattern is the first
only_one : {X : Type 0} (before : List X) (x one : X) (after rest : List X) → rest ≡ [] → one ∷ rest ≡ before ++ x ∷ after → (before ≡ []) × (one ≡ x)
only_one [] x one after rest none e = (refl, head_is e)
only_one (b ∷ before) x one after rest none e = let more : rest ≡ before ++ x ∷ after = tail_is e in absurd (none_before before x after (sym none ∙ more))

typed_first : (glob typed : List ℕ) (index : ℕ) → index ≡ 0 → IsTypedAt 1 (glob ∷ []) index typed → typed ≡ glob
typed_first glob typed index is_zero t =
    let here : glob ∷ [] ≡ t.text ∷ t.after = subst (λ i. drop i (glob ∷ []) ≡ t.text ∷ t.after) is_zero t.at in
    t.typed_is ∙ ap (λ i. drop (added_before 1 i) t.text) is_zero ∙ sym (first here)

-- what is written for one name
module _ (A : Type 0) (glob item : List ℕ) (whole : Lacks 0 item) (left old new : Option (List ℕ)) where
  abbrev pub Written : Result ⊤ Fault → Type 0
  Written answer = OnOk answer ((text : List ℕ) × (IsChosenBy glob item text × Appends old new text))

  err_written : (answer : Result ⊤ Fault) (fault : Fault) → answer ≡ Err fault → Written answer
  err_written answer fault e = subst Written (sym e) tt

  module _ (one : List (List Mark)) (rest : List (List (List Mark))) (are : AreWrittenOut (strings Unix) unix_options (glob ∷ []) (one ∷ rest)) where
    abbrev First : List ℕ → Option ℕ → Type 0
    First = IsFirst (strings Unix) unix_options (one ∷ rest)

    abbrev from : Sources
    from = sources [] 1 (glob ∷ [])

    abbrev Matches : Type 0
    Matches = MatchesWrittenOut (options.options_of unix_options) one (letters_of unix.ghosts.units item)

    of_first : (text : List ℕ) (first : Option ℕ) → First item first → IsTextOfFirst (strings Unix) 1 (glob ∷ []) item first text → IsChosenBy glob item text
    of_first text None f t = record { written = one; are = are.0; shown = λ m. absurd (f (inl m)); nothing = λ n. t }
    of_first text (Some index) f t =
        let alone = only_one f.before f.one one f.after rest are.1 f.joined in
        let is_zero : index ≡ 0 = f.index_is ∙ ap length alone.0 in
        let matches : Matches = subst (λ w. MatchesWrittenOut (options.options_of unix_options) w (letters_of unix.ghosts.units item)) (sym alone.1) f.matches in
        let typed = typed_first glob t.typed index is_zero t.typed_is in
        record {
          written = one;
          are = are.0;
          shown = λ m. (t.typed_escape, t.escape, subst (λ g. IsLineEscape unix.ghosts.units g t.typed_escape) typed t.typed_shown, (t.escape_is, subst (λ i. text ≡ place_text (codes "GLOB") (i + 1) t.typed_escape ++ (t.escape ++ 0x0A ∷ [])) is_zero t.text_is));
          nothing = λ n. absurd (n matches);
        }

    of_numbers : (files : List (File A)) (text : List ℕ) (numbers : Option (ℕ × ℕ)) → numbers ≡ None → IsTextOfNumbers (strings Unix) First from files item numbers text → IsChosenBy glob item text
    of_numbers files text None none t = of_first text t.0 t.1.0 t.1.1
    of_numbers files text (Some at) none t = absurd (cc)

    of_output : (files : List (File A)) (output : List ℕ) → files ≡ [] → IsOutput (deciding (strings Unix) First usual from files) (item ++ 0 ∷ []) output → IsChosenBy glob item output
    of_output files output none o =
        let rules = deciding (strings Unix) First usual from files in
        let one_item = one_ended rules o.entries item whole (λ never. never) o.items (all_whole rules o.entries o.are) in
        let entry = (subst (λ es. AllByRecursion (IsEntry rules) es) one_item.1 o.are).0 in
        let is : output ≡ one_item.0 = o.written ∙ ap texts_of one_item.1 ∙ append-nil one_item.0 in
        let said = subst (IsDecidedText (strings Unix) First from files item) (sym is) entry.text.1.1.1 in
        of_numbers files output said.numbers (no_line A files item said.numbers none said.decided) said.text_is

    run_written : (files : List (File A)) → files ≡ [] → (run : Result ⊤ (ListFault Rejection)) → IsRun (deciding (strings Unix) First usual from files) (Some (item ++ 0 ∷ [])) left old new run → Written (answer_of OfList run)
    run_written files none (Err fault) is = tt
    run_written files none (Ok done) is = let w = is.written in (w.0, (of_output files w.0 none w.1.0, w.1.1))

  -- where this is stated
  abbrev stated : Requested
  stated = record { command = On Unix Why; list = usual; plain = 1; globs = glob ∷ []; pattern_files = []; files = []; inverted = false; case_insensitive = false; excluded = []; exit_status = false }

  module _ (known : KnownFiles) (answer : Result ⊤ Fault) where
    by_written : (written : List (List (List Mark))) → AreWrittenOut (strings Unix) unix_options (glob ∷ []) written → RunsDeciding known A (strings Unix) stated (IsFirst (strings Unix) unix_options written) (Some (item ++ 0 ∷ [])) left old new answer → Written answer
    by_written [] are runs = absurd are
    by_written (one ∷ rest) are (inl unread) = err_written answer _ unread.2.0
    by_written (one ∷ rest) are (inr ran) = subst Written (sym ran.2.1.1) (run_written one rest are ran.0 (no_files A known ran.0 ran.1) ran.2.0 ran.2.1.0)

    written : Reasons known A (Some (item ++ 0 ∷ [])) left old new answer usual 1 (glob ∷ []) [] false [] → Written answer
    written (inl memory) = err_written answer _ memory.0
    written (inr (inl fault)) = err_written answer _ fault.2.0
    written (inr (inr compiled)) = by_written compiled.0 compiled.1 compiled.2

    module _ (command platform pattern : Bor (List ℕ)) (is_command : command.now ≡ codes "why") (is_platform : platform.now ≡ codes "unix") (is_glob : pattern.now ≡ glob) where
      abbrev words : List (Bor (List ℕ))
      words = command ∷ platform ∷ pattern ∷ []

      abbrev given : Line
      given = operands words

      is_unix : (os : Os) (more : List (List ℕ)) → HasPlatform (platform.now ∷ pattern.now ∷ []) os more → (codes "unix" ≡ os_word os) × (more ≡ pattern.now ∷ [])
      is_unix os more (inl has) = (sym is_platform ∙ first has, sym (later has))
      is_unix os more (inr has) = absurd (has.1.0 Unix is_platform)

      one_pattern : (plain : ℕ) (globs : List (List ℕ)) → ArePatterns given plain globs → (plain ≡ 1) × (globs ≡ glob ∷ [])
      one_pattern plain globs patterns =
          let of = patterns.3.0 in
          let own : patterns.0 ≡ glob ∷ [] = of.2.1 ∙ ap first_of (is_unix of.0 of.1 of.2.0).1 ∙ ap (λ g. g ∷ []) is_glob in
          let more : patterns.1 ≡ [] = no_values words option.Glob patterns.1 patterns.3.1.0 in
          let of_names : patterns.2 ≡ [] = no_values words option.Name patterns.2 patterns.3.1.1.0 in
          let before : patterns.0 ++ patterns.1 ≡ glob ∷ [] = ap (λ x. x ++ patterns.1) own ∙ ap (λ x. glob ∷ x) more in
          (patterns.3.1.1.1.1 ∙ ap length before, patterns.3.1.1.1.0 ∙ ap (λ x. x ++ map in_any_folder patterns.2) before ∙ ap (λ x. glob ∷ map in_any_folder x) of_names)

      decided : (requested : Requested) → requested.list ≡ usual → StatesPicks given requested → UnlessOutOfMemory (RunsReasons known A (strings Unix) requested Unix) (Some (item ++ 0 ∷ [])) left old new answer → Written answer
      decided requested is_usual states runs =
          let These = Reasons known A (Some (item ++ 0 ∷ [])) left old new answer in
          let patterns = one_pattern requested.plain requested.globs states.0.0 in
          let unread = no_values words option.GlobsFrom requested.pattern_files states.0.1 in
          let files = no_values words option.Ignore requested.files states.1.0.0 in
          let cased = not_stated words option.IgnoreCase requested.case_insensitive states.1.1.1.0 in
          written (subst (λ m. These m 1 (glob ∷ []) [] false []) is_usual
          (subst (λ plain. These requested.list plain (glob ∷ []) [] false []) patterns.0
          (subst (λ globs. These requested.list requested.plain globs [] false []) patterns.1
          (subst (λ files. These requested.list requested.plain requested.globs files false []) unread
          (subst (λ folds. These requested.list requested.plain requested.globs requested.pattern_files folds []) cased
          (subst (λ files. These requested.list requested.plain requested.globs requested.pattern_files requested.case_insensitive files) files runs))))))

      by_platform : (os : Os) (requested : Requested) → codes "unix" ≡ os_word os → requested.list ≡ usual → StatesPicks given requested → DoesWork known A (strings os) requested os Why (Some (item ++ 0 ∷ [])) left old new answer → Written answer
      by_platform Unix requested e listed states runs =
          let unstated : requested.exit_status ≡ false = not_stated words option.ExitStatus requested.exit_status states.1.1.1.1.1 in
          decided requested listed states (without_status (UnlessOutOfMemory (RunsReasons known A (strings Unix) requested Unix)) requested.exit_status (Some (item ++ 0 ∷ [])) left old new answer unstated runs)
      by_platform Windows requested e listed states runs = absurd (not_windows e)
      by_platform Wasm requested e listed states runs = absurd (not_wasm e)

      by_request : (requested : Requested) → IsRequestFor given requested → Does known A requested (Some (item ++ 0 ∷ [])) left old new answer → Written answer
      by_request requested (inl requests) does = absurd (none words option.Help requests.0)
      by_request requested (inr requests) does = by requests.1
        where
          by : ((HasOption option.Version given × (requested.command ≡ Version)) ⊎ ((¬ (HasOption option.Version given)) × (IsListed given requested.list × (MakesUp given requested.command × StatesPicks given requested)))) → Written answer
          by (inl v) = absurd (none words option.Version v.0)
          by (inr c) =
              let why = is_why given (platform.now ∷ pattern.now ∷ []) (ap (λ x. x ∷ platform.now ∷ pattern.now ∷ []) is_command) requested.command c.1.1.0 in
              let has = why.2.1.0 in
              let os = (is_unix why.0 why.2.0 (subst (λ after. HasPlatform after why.0 why.2.0) (sym (later has.1.0)) has.1.1)).0 in
              let list = is_usual_list given (none words option.Lines) (none words option.Unterminated) (usual_max words) requested.list c.1.0 in
              by_platform why.0 requested os list c.1.1.1 (subst (λ made. DoesCommand known A requested made (Some (item ++ 0 ∷ [])) left old new answer) why.1 does)

      of_line : RunsLine known A given (Some (item ++ 0 ∷ [])) left old new answer → Written answer
      of_line (inl r) = err_written answer _ r.2.1.0
      of_line (inr does) = by_request does.0 does.1.0 does.1.1

    -- what the program does for the words
    of_words : OneWord → OneValue → ¬ (IsPrefix dash glob) → RunsTo known A (choosing glob) (Some (item ++ 0 ∷ [])) left old new answer → Written answer
    of_words one_word one_value plain (inl memory) = err_written answer _ memory.0
    of_words one_word one_value plain (inr (inl rejected)) = err_written answer _ rejected.2.1.0
    of_words one_word one_value plain (inr (inr does)) =
        let read = does.1.0 in
        let is = are_choosing glob plain one_word one_value read.read read.after read.end does.0 read.are in
        of_line is.command is.platform is.pattern is.command_is is.platform_is is.pattern_is (subst (λ g. RunsLine known A g (Some (item ++ 0 ∷ [])) left old new answer) is.given_are does.1.1)

-- what the whole program writes for one name with its end, unless memory is refused before it runs
pub program_chosen : OneWord → OneValue → (known : KnownFiles) (A : Type 0) (glob item : List ℕ) → ¬ (IsPrefix dash glob) → Lacks 0 item → (words : List (List ℕ)) → words ≡ choosing glob → (left old new : Option (List ℕ)) {X : Type 0} (names : List ℕ) (outcome answer : Result ⊤ Fault) → names ≡ item ++ 0 ∷ [] → answer ≡ outcome
    → ((outcome ≡ Err (OfList (Run Memory))) × X) ⊎ RunsTo known A words (Some names) left old new outcome → OnOk answer ((text : List ℕ) × (IsChosenBy glob item text × Appends old new text))
program_chosen one_word one_value known A glob item plain whole line are left old new names outcome answer ended e (inl memory) = err_written A glob item whole left old new answer _ (e ∙ memory.0)
program_chosen one_word one_value known A glob item plain whole line are left old new names outcome answer ended e (inr runs) =
    subst (Written A glob item whole left old new) (sym e) (of_words A glob item whole left old new known outcome one_word one_value plain (subst (λ n. RunsTo known A (choosing glob) (Some n) left old new outcome) ended (subst (λ w. RunsTo known A w (Some names) left old new outcome) are runs)))
