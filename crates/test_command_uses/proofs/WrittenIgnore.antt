-- How the program ends for the words that filter names by one ignore file: what it writes for one name, and that it writes nothing where there is no such file, or no end.
use Rattle.std.proofs.Common.{◌≡◌, ◌≢◌, ◌⊎◌, inl, inr, ℕ, List, [], ◌∷◌, ◌++◌, ◌+◌, Bool, true, false, length, refl, sym, ap, ◌∙◌, subst, Option, Some, Result, Ok, Err}
use Rattle.std.specs.Prelude.{IsOk, OnOk, ⊤}
use Rattle.std.specs.Io.KnownBytes.{Appends}
use Rattle.os_ignore.specs.declared.file.File.{File}
use Rattle.program_frame.specs.Ended.{status_after}
use Rattle.list_programs.specs.Items.{Lacks}
use Rattle.list_programs.specs.ListRun.{IsRun, answer_of}
use Rattle.list_programs.specs.ProgramFault.{status_of}
use Rattle.program_frame.specs.Strings.{strings}
use Rattle.program_frame.specs.declared.fault.Failure.TheVariants.{Memory}
use Rattle.list_programs.specs.declared.fault.ListFault.{ListFault}
use Rattle.list_programs.specs.declared.fault.ListFault.TheVariants.{Run}
use Rattle.list_programs.specs.declared.program_fault.Fault.TheVariants.{List as OfList, Words}
use Rattle.program_frame.specs.declared.os.Os.TheVariants.{Unix}
use Rattle.names_commands.specs.Fault.{words_status}
use Rattle.names_commands.specs.Ignoring.{AreRead, IsFirstUnread, IsIgnored}
use Rattle.names_commands.specs.Matching.{picking}
use Rattle.names_commands.specs.Program.{EndsAtOnce, Fault, IsFileFault, RunsTo}
use Rattle.names_commands.specs.declared.fault.CommandFault.{CommandFault}
use Rattle.names_commands.specs.declared.fault.CommandFault.TheVariants.{Unreadable, Misuse, Pattern, NoFile, Unread, NoPatternFile, UnreadPatternFile, LinePattern, LineNoString, NoOutput}
use Rattle.names_commands.specs.declared.fault.Rejection.{Rejection}
use Rattle.names_commands.specs.declared.matching.Form.TheVariants.{Name}
use Rattle.test_command_uses.specs.OneFile.{only, filtering, usual, IsFilteredBy, IsUnread}
use Rattle.test_command_uses.proofs.GivenIgnore.{not_read, only_read}
use Rattle.test_command_uses.proofs.GivenWords.{OneValue, OneWord}
use Rattle.test_command_uses.proofs.KnownIgnore.{Filters, IsLeftBy, filters}
use Rattle.test_command_uses.proofs.KnownNames.{ended_filtered, never_read}
use Rattle.test_command_uses.proofs.LineWords.{later}

one_before : (word name : List ℕ) (before after : List (List ℕ)) → word ∷ [] ≡ before ++ name ∷ after → before ≡ []
one_before word name [] after e = refl
one_before word name (x ∷ []) after e = let never : [] ≡ name ∷ after = later e in absurd (cc)
one_before word name (x ∷ y ∷ before) after e = let never : [] ≡ y ∷ (before ++ name ∷ after) = later e in absurd (cc)

-- what is written for one name
module _ (A : Type 0) (folds : Bool) (file bytes name : List ℕ) (plain : Lacks 0x3D file) (whole : Lacks 0 name) (left old new : Option (List ℕ)) where
  abbrev pub Written : Result ⊤ Fault → Type 0
  Written answer = OnOk answer ((text : List ℕ) × (IsFilteredBy A folds bytes name text × Appends old new text))

  err_written : (answer : Result ⊤ Fault) (fault : Fault) → answer ≡ Err fault → Written answer
  err_written answer fault e = subst Written (sym e) tt

  run_written : (files : List (File A)) → AreRead (only file bytes) folds (file ∷ []) files → (run : Result ⊤ (ListFault Rejection)) → IsRun (picking (strings Unix) Name usual true (IsLeftBy folds files)) (Some (name ++ 0 ∷ [])) left old new run → Written (answer_of OfList run)
  run_written files read (Err fault) is = tt
  run_written files read (Ok done) is =
      let w = is.written in
      let said = ended_filtered (strings Unix) true (IsLeftBy folds files) name w.0 whole w.1.0 in
      (w.0, (record { from_top = said.0 refl; files = files; only = only_read folds file bytes files plain read; ignored = λ i. left_out i said.1; kept = λ n. kept n said.1 }, w.1.1))
    where
      left_out : {text : List ℕ} → IsIgnored files name → (((Unit {0} × (¬ (IsIgnored files name))) × (⊥ → ⊥)) × (text ≡ name ++ 0 ∷ [])) ⊎ ((¬ ((Unit {0} × (¬ (IsIgnored files name))) × (⊥ → ⊥))) × (text ≡ [])) → text ≡ []
      left_out i (inl seen) = absurd (seen.0.0.1 i)
      left_out i (inr unseen) = unseen.1

      kept : {text : List ℕ} → ¬ (IsIgnored files name) → (((Unit {0} × (¬ (IsIgnored files name))) × (⊥ → ⊥)) × (text ≡ name ++ 0 ∷ [])) ⊎ ((¬ ((Unit {0} × (¬ (IsIgnored files name))) × (⊥ → ⊥))) × (text ≡ [])) → text ≡ name ++ 0 ∷ []
      kept n (inl seen) = seen.1
      kept n (inr unseen) = absurd (unseen.0 ((tt, n), λ never. never))

  pub written : (answer : Result ⊤ Fault) → Filters (only file bytes) A folds file (Some (name ++ 0 ∷ [])) left old new answer → Written answer
  written answer (inl memory) = err_written answer _ memory.0
  written answer (inr (inl unread)) = err_written answer _ unread.2.0
  written answer (inr (inr ran)) = subst Written (sym ran.2.1.1) (run_written ran.0 ran.1 ran.2.0 ran.2.1.0)

-- there is no such file, or memory is refused, and nothing is read or written
pub record EndsUnread (input left old new : Option (List ℕ)) (answer : Result ⊤ Fault) : Type 0 where
  pub fault : (answer ≡ Err (Words (NoFile 1))) ⊎ (answer ≡ Err (OfList (Run Memory)))
  pub kept : left ≡ input
  pub nothing : new ≡ old

-- what the program does where there is no such file
module _ (A : Type 0) (folds : Bool) (file bytes other : List ℕ) (plain : Lacks 0x3D other) (differs : other ≢ file) (input left old new : Option (List ℕ)) (answer : Result ⊤ Fault) where
  number_one : (number : ℕ) (name : List ℕ) → IsFirstUnread A (only file bytes) folds (other ∷ []) number name → number ≡ 1
  number_one number name u = u.number_is ∙ ap (λ b. length b + 1) (one_before other name u.before u.after u.joined)

  by_fault : (why : CommandFault) → IsFileFault (only file bytes) A folds (other ∷ []) why → EndsAtOnce (Words why) input left old new answer → EndsUnread input left old new answer
  by_fault Unreadable f ends = absurd f
  by_fault (Misuse text) f ends = absurd f
  by_fault (Pattern number fault lines) f ends = absurd f
  by_fault (NoFile number) f ends = record { fault = inl (ends.0 ∙ ap (λ n. Err (Words (NoFile n))) (number_one number f.0 f.1)); kept = ends.1.0; nothing = ends.1.1 }
  by_fault (Unread number) f ends = absurd f.2.2.1
  by_fault (NoPatternFile number) f ends = absurd f
  by_fault (UnreadPatternFile number) f ends = absurd f
  by_fault (LinePattern at line fault lines) f ends = absurd f
  by_fault (LineNoString at line error) f ends = absurd f
  by_fault NoOutput f ends = absurd f

  pub ends_unread : Filters (only file bytes) A folds other input left old new answer → EndsUnread input left old new answer
  ends_unread (inl memory) = record { fault = inr memory.0; kept = memory.1.0; nothing = memory.1.1 }
  ends_unread (inr (inl unread)) = by_fault unread.0 unread.1 unread.2
  ends_unread (inr (inr ran)) = absurd (not_read folds file bytes other ran.0 plain differs ran.1)

-- a list that no NUL ends isn't filtered
module _ (A : Type 0) (folds : Bool) (file bytes name : List ℕ) (whole : Lacks 0 name) (some : name ≢ []) (left old new : Option (List ℕ)) where
  abbrev IsFine : Result ⊤ Fault → Type 0
  IsFine ended = IsOk ended

  not_run : (files : List (File A)) (run : Result ⊤ (ListFault Rejection)) → IsRun (picking (strings Unix) Name usual true (IsLeftBy folds files)) (Some name) left old new run → ¬ (IsFine (answer_of OfList run))
  not_run files (Err fault) is ok = let never : false ≡ true = ok in cc
  not_run files (Ok done) is ok = let w = is.written in never_read (strings Unix) (picking (strings Unix) Name usual true (IsLeftBy folds files)) name w.0 whole some (λ never. never) w.1.0

  not_err : (answer : Result ⊤ Fault) (fault : Fault) → answer ≡ Err fault → ¬ (IsOk answer)
  not_err answer fault e ok = let never : false ≡ true = subst IsOk e ok in cc

  pub not_written : (answer : Result ⊤ Fault) → Filters (only file bytes) A folds file (Some name) left old new answer → ¬ (IsOk answer)
  not_written answer (inl memory) = not_err answer _ memory.0
  not_written answer (inr (inl unread)) = not_err answer _ unread.2.0
  not_written answer (inr (inr ran)) = λ ok. not_run ran.0 ran.2.0 ran.2.1.0 (subst IsOk ran.2.1.1 ok)

-- what the whole program writes for one name with its end, and for one without, unless memory is refused before it runs
module _ (one_word : OneWord) (one_value : OneValue) (A : Type 0) (folds : Bool) (file bytes name : List ℕ) (whole : Lacks 0 name) (words : List (List ℕ)) (words_are : words ≡ filtering folds file) (left old new : Option (List ℕ)) where
  pub program_written : {X : Type 0} (names : List ℕ) (outcome answer : Result ⊤ Fault) → Lacks 0x3D file → names ≡ name ++ 0 ∷ [] → answer ≡ outcome → ((outcome ≡ Err (OfList (Run Memory))) × X) ⊎ RunsTo (only file bytes) A words (Some names) left old new outcome → OnOk answer ((text : List ℕ) × (IsFilteredBy A folds bytes name text × Appends old new text))
  program_written names outcome answer plain ended e (inl memory) = err_written A folds file bytes name plain whole left old new answer _ (e ∙ memory.0)
  program_written names outcome answer plain ended e (inr runs) = subst (Written A folds file bytes name plain whole left old new) (sym e) (written A folds file bytes name plain whole left old new outcome (subst (λ n. Filters (only file bytes) A folds file (Some n) left old new outcome) ended (filters one_word one_value (only file bytes) A folds file plain words (Some names) left old new outcome words_are runs)))

  pub program_unended : {X : Type 0} (outcome answer : Result ⊤ Fault) → Lacks 0x3D file → name ≢ [] → answer ≡ outcome → ((outcome ≡ Err (OfList (Run Memory))) × X) ⊎ RunsTo (only file bytes) A words (Some name) left old new outcome → ¬ (IsOk answer)
  program_unended outcome answer plain some e (inl memory) = not_err A folds file bytes name whole some left old new answer _ (e ∙ memory.0)
  program_unended outcome answer plain some e (inr runs) = λ ok. not_written A folds file bytes name whole some left old new outcome (filters one_word one_value (only file bytes) A folds file plain words (Some name) left old new outcome words_are runs) (subst IsOk e ok)

-- the status where there is no such file
pub status_unread : (outcome answer : Result ⊤ Fault) (status : ℕ) → answer ≡ outcome → status ≡ status_after (status_of words_status) outcome
    → (outcome ≡ Err (Words (NoFile 1))) ⊎ (outcome ≡ Err (OfList (Run Memory))) → IsUnread answer status
status_unread outcome answer status e s (inl none) = inl (e ∙ none, s ∙ ap (status_after (status_of words_status)) none)
status_unread outcome answer status e s (inr memory) = inr (e ∙ memory, s ∙ ap (status_after (status_of words_status)) memory)

-- how the whole program ends then: memory may be refused before it runs
pub end_of : OneWord → OneValue → (A : Type 0) (folds : Bool) (file bytes other : List ℕ) → Lacks 0x3D other → other ≢ file → (words : List (List ℕ)) → words ≡ filtering folds other → {R W : Type 0} (reads : R → Option (List ℕ)) (writes : W → Option (List ℕ)) (reader read : R) (writer wrote : W) (outcome : Result ⊤ Fault)
    → ((outcome ≡ Err (OfList (Run Memory))) × ((read ≡ reader) × (wrote ≡ writer))) ⊎ RunsTo (only file bytes) A words (reads reader) (reads read) (writes writer) (writes wrote) outcome
    → EndsUnread (reads reader) (reads read) (writes writer) (writes wrote) outcome
end_of one_word one_value A folds file bytes other plain differs words are reads writes reader read writer wrote outcome (inl memory) = record { fault = inr memory.0; kept = ap reads memory.1.0; nothing = ap writes memory.1.1 }
end_of one_word one_value A folds file bytes other plain differs words are reads writes reader read writer wrote outcome (inr runs) = ends_unread A folds file bytes other plain differs (reads reader) (reads read) (writes writer) (writes wrote) outcome (filters one_word one_value (only file bytes) A folds other plain words (reads reader) (reads read) (writes writer) (writes wrote) outcome are runs)
