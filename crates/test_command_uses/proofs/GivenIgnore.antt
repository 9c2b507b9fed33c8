-- What a line of words with one ignore file requests, and which file is read for it.
use Rattle.std.proofs.Common.{◌≡◌, ◌≢◌, inl, inr, ℕ, List, [], ◌∷◌, ◌++◌, Bool, true, false, ◌↔◌, length, map, refl, sym, ap, ◌∙◌, subst, Some, None}
use Rattle.std.specs.Prelude.{codes, IsTrue}
use Rattle.std.specs.List.{AllByRecursion}
use denote.Ref.{Bor}
use Rattle.os_ignore.specs.Ignores.{IsAddedTo}
use Rattle.os_ignore.specs.declared.file.File.{File}
use Rattle.list_programs.proofs.lemmas.Items.{has_end}
use Rattle.names_commands.proofs.lemmas.Placed.{placed_whole}
use Rattle.list_programs.specs.Items.{Lacks}
use Rattle.program_frame.specs.Os.{os_word}
use Rattle.list_programs.specs.declared.options.ListOptions.{ListOptions}
use Rattle.program_frame.specs.declared.os.Os.{Os}
use Rattle.program_frame.specs.declared.os.Os.TheVariants.{Unix}
use Rattle.names_commands.specs.Command.{HasOperands, IsListed, IsMax, Line, StatesPicks, name_word}
use Rattle.names_commands.specs.Ignoring.{AreAdded, AreRead, FileRead, IsFileIn, WasRead, value_of}
use Rattle.names_commands.specs.Operands.{HasPlatform, IsGlobOperand, first_of}
use Rattle.names_commands.specs.Pick.{ArePatterns, in_any_folder}
use Rattle.names_commands.specs.declared.command.Command.{Command}
use Rattle.names_commands.specs.declared.command.Name.{Name as DeclaredName}
use Rattle.names_commands.specs.declared.option.NamesOption.{NamesOption}
use Rattle.names_commands.specs.declared.option.NamesOption.TheVariants as option
use Rattle.list_programs.specs.Arguments.{AreValues, HasOption, LastValue, operands_of}
use Rattle.list_programs.specs.declared.arguments.Given.TheVariants.{Operand, Valued}
use Rattle.test_command_uses.specs.OneFile.{only, usual}
use Rattle.test_command_uses.proofs.GivenWords.{case_flags}
use Rattle.test_command_uses.proofs.KnownLists.{is_usual_list}
use Rattle.test_command_uses.proofs.LineWords.{case_is, first, is_case_given, later, no_case_limit, no_case_operand, no_case_value, no_limit_in_case, no_other_in_case, none_in_case}

-- a value without `=` is the name of a file at the top
pub at_top : (value directory name : List ℕ) → Lacks 0x3D value → IsFileIn value directory name → (directory ≡ []) × (name ≡ value)
at_top value directory name lacks (inl plain) = plain.1
at_top value directory name lacks (inr placed) = absurd (has_end 0x3D value placed.0 name placed.1.0 lacks)

-- the file is the only one that the options state, and there is no pattern
module _ (folds : Bool) (command platform value : Bor (List ℕ)) where
  abbrev pub given_of : Line
  given_of = Operand command ∷ Operand platform ∷ Valued option.Ignore value ∷ case_flags folds

  pub one_file : (files : List (List ℕ)) → AreValues option.Ignore given_of files → files ≡ value.now ∷ []
  one_file files (inl k) = absurd k.2.0
  one_file files (inr k) = by k.1
    where
      last : AreValues option.Ignore (Valued option.Ignore value ∷ case_flags folds) files → files ≡ value.now ∷ []
      last (inl k) = k.2.1.1 ∙ ap (λ x. k.0 ∷ x) (no_case_value folds option.Ignore k.1 k.2.1.0) ∙ ap (λ x. x ∷ []) (sym k.2.0.1)
      last (inr k) = absurd (k.0 value.now (refl, refl))

      by : AreValues option.Ignore (Operand platform ∷ Valued option.Ignore value ∷ case_flags folds) files → files ≡ value.now ∷ []
      by (inl k) = absurd k.2.0
      by (inr k) = last k.1

  pub no_values : (it : NamesOption) → (option.Ignore ≡ it → ⊥) → (values : List (List ℕ)) → AreValues it given_of values → values ≡ []
  no_values it other values (inl k) = absurd k.2.0
  no_values it other values (inr k) = by k.1
    where
      last : AreValues it (Valued option.Ignore value ∷ case_flags folds) values → values ≡ []
      last (inl k) = absurd (other k.2.0.0)
      last (inr k) = no_case_value folds it values k.1

      by : AreValues it (Operand platform ∷ Valued option.Ignore value ∷ case_flags folds) values → values ≡ []
      by (inl k) = absurd k.2.0
      by (inr k) = last k.1

  pub no_limit : LastValue option.Max given_of None None
  no_limit = inr (λ v h. h, inr (λ v h. h, inr (λ v h. let never : option.Ignore ≡ option.Max = h.0 in cc, no_case_limit folds)))

  other_limit : (number : List ℕ) → ¬ (LastValue option.Max given_of None (Some number))
  other_limit number (inl k) = k.1.0
  other_limit number (inr k) = by k.1
    where
      last : ¬ (LastValue option.Max (Valued option.Ignore value ∷ case_flags folds) None (Some number))
      last (inl k) = let never : option.Ignore ≡ option.Max = k.1.0.0 in cc
      last (inr k) = no_limit_in_case folds number k.1

      by : ¬ (LastValue option.Max (Operand platform ∷ Valued option.Ignore value ∷ case_flags folds) None (Some number))
      by (inl k) = k.1.0
      by (inr k) = last k.1

  usual_max : (max : ℕ) → IsMax given_of max → max ≡ 1048576
  usual_max max (inl m) = m.1
  usual_max max (inr m) = absurd (other_limit m.0 m.1.0)

  -- no other option is given
  no_other : (it : NamesOption) → (option.Ignore ≡ it → ⊥) → (option.IgnoreCase ≡ it → ⊥) → ¬ (HasOption it given_of)
  no_other it other cased (inl h) = h
  no_other it other cased (inr (inl h)) = h
  no_other it other cased (inr (inr (inl h))) = other h
  no_other it other cased (inr (inr (inr h))) = no_other_in_case folds it cased h

  no_lines : ¬ (HasOption option.Lines given_of)
  no_lines = no_other option.Lines (λ e. cc) (λ e. cc)

  no_unterminated : ¬ (HasOption option.Unterminated given_of)
  no_unterminated = no_other option.Unterminated (λ e. cc) (λ e. cc)

  -- so the list is written as usual
  pub usual_list : (list : ListOptions) → IsListed given_of list → list ≡ usual
  usual_list = is_usual_list given_of no_lines no_unterminated usual_max

  pub is_usual : IsListed given_of usual
  is_usual = (1048576, (inl (no_limit, refl), record { end = no_lines; last = no_unterminated; limit = refl }))

  pub no_help : ¬ (HasOption option.Help given_of)
  no_help = no_other option.Help (λ e. cc) (λ e. cc)

  pub no_version : ¬ (HasOption option.Version given_of)
  no_version = no_other option.Version (λ e. cc) (λ e. cc)

  -- so what another option states is false
  pub not_stated : (it : NamesOption) → (option.Ignore ≡ it → ⊥) → (option.IgnoreCase ≡ it → ⊥) → (stated : Bool) → (IsTrue stated ↔ HasOption it given_of) → stated ≡ false
  not_stated it other cased true is = absurd (no_other it other cased (is.0 refl))
  not_stated it other cased false is = refl

  none_given : (it : NamesOption) → (option.Ignore ≡ it → ⊥) → (option.IgnoreCase ≡ it → ⊥) → IsTrue false ↔ HasOption it given_of
  none_given it other cased = (λ e. let never : false ≡ true = e in absurd (cc), λ h. absurd (no_other it other cased h))

  -- and case is disregarded as the last of them says
  case_in : HasOption option.IgnoreCase given_of → HasOption option.IgnoreCase (case_flags folds)
  case_in (inl h) = absurd h
  case_in (inr (inl h)) = absurd h
  case_in (inr (inr (inl h))) = let never : option.Ignore ≡ option.IgnoreCase = h in absurd (cc)
  case_in (inr (inr (inr h))) = h

  pub is_case : (stated : Bool) → (IsTrue stated ↔ HasOption option.IgnoreCase given_of) → stated ≡ folds
  is_case stated is = case_is folds stated (λ e. case_in (is.0 e), λ h. is.1 (inr (inr (inr h))))

  states_case : IsTrue folds ↔ HasOption option.IgnoreCase given_of
  states_case = (λ e. inr (inr (inr ((is_case_given folds).0 e))), λ h. (is_case_given folds).1 (case_in h))

  none_stated : (it : NamesOption) → (option.Ignore ≡ it → ⊥) → AreValues it given_of []
  none_stated it other = inr (λ v h. h, inr (λ v h. h, inr (λ v h. other h.0, none_in_case folds it)))

  -- the only operand after the command is the platform
  pub is_unix : platform.now ≡ codes "unix" → (os : Os) (more : List (List ℕ)) → HasPlatform (platform.now ∷ operands_of (case_flags folds)) os more → (codes "unix" ≡ os_word os) × (more ≡ [])
  is_unix is os more (inl has) = (sym is ∙ first has, sym (later has) ∙ no_case_operand folds)
  is_unix is os more (inr has) = absurd (has.1.0 Unix is)

  has_unix : platform.now ≡ codes "unix" → HasPlatform (platform.now ∷ operands_of (case_flags folds)) Unix []
  has_unix is = inl (ap (λ x. x ∷ operands_of (case_flags folds)) is ∙ ap (λ x. codes "unix" ∷ x) (no_case_operand folds))

  -- so the operands are those of one command
  pub has_operands : (which : DeclaredName) → command.now ≡ name_word which → platform.now ≡ codes "unix" → HasOperands given_of which Unix []
  has_operands which named is = (platform.now ∷ operands_of (case_flags folds), (ap (λ x. x ∷ platform.now ∷ operands_of (case_flags folds)) named, has_unix is))

  -- and no pattern is one
  no_operand : platform.now ≡ codes "unix" → (own : List (List ℕ)) → IsGlobOperand (operands_of given_of) own → own ≡ []
  no_operand is own has = has.2.1 ∙ ap first_of (is_unix is has.0 has.1 has.2.0).1

  -- so no pattern is stated
  pub no_patterns : platform.now ≡ codes "unix" → (plain : ℕ) (globs : List (List ℕ)) → ArePatterns given_of plain globs → (plain ≡ 0) × (globs ≡ [])
  no_patterns is plain globs patterns =
      let own : patterns.0 ≡ [] = no_operand is patterns.0 patterns.3.0 in
      let more : patterns.1 ≡ [] = no_values option.Glob (λ e. cc) patterns.1 patterns.3.1.0 in
      let of_names : patterns.2 ≡ [] = no_values option.Name (λ e. cc) patterns.2 patterns.3.1.1.0 in
      let before : patterns.0 ++ patterns.1 ≡ [] = ap (λ x. x ++ patterns.1) own ∙ more in
      (patterns.3.1.1.1.1 ∙ ap length before, patterns.3.1.1.1.0 ∙ ap (λ x. x ++ map in_any_folder patterns.2) before ∙ ap (map in_any_folder) of_names)

  pub no_pattern_files : (files : List (List ℕ)) → AreValues option.GlobsFrom given_of files → files ≡ []
  no_pattern_files files values = no_values option.GlobsFrom (λ e. cc) files values

  -- but this ignore file
  pub states_one : platform.now ≡ codes "unix" → Lacks 0x3D value.now → (requested : Command) (list : ListOptions) → StatesPicks given_of (record { command = requested; list = list; plain = 0; globs = []; pattern_files = []; files = value.now ∷ []; inverted = false; case_insensitive = folds; excluded = []; exit_status = false })
  states_one is plain requested list = (
    (([], [], [], ((Unix, [], (has_unix is, refl)), (none_stated option.Glob (λ e. cc), (none_stated option.Name (λ e. cc), (refl, refl))))), none_stated option.GlobsFrom (λ e. cc)),
    ((inr (λ v h. h, inr (λ v h. h, inl (value.now, [], ((refl, refl), (none_in_case folds option.Ignore, refl))))), (placed_whole value.now plain, tt)), (none_given option.Invert (λ e. cc) (λ e. cc), (states_case, (none_stated option.Exclude (λ e. cc), none_given option.ExitStatus (λ e. cc) (λ e. cc))))),
  )

-- the file that was read is the only one
module _ {A : Type 0} (folds : Bool) (name bytes : List ℕ) where
  pub only_read : (files : List (File A)) → Lacks 0x3D name → AreRead (only name bytes) folds (name ∷ []) files → IsAddedTo folds [] bytes [] files
  only_read files plain r = by r.reads r.values_are r.have r.added
    where
      by : (reads : List FileRead) → name ∷ [] ≡ map value_of reads → AllByRecursion (WasRead (only name bytes)) reads → AreAdded folds reads [] files → IsAddedTo folds [] bytes [] files
      by [] e h a = absurd (cc)
      by (read ∷ []) e h a =
          let top = (at_top read.value read.directory read.name (subst (Lacks 0x3D) (first e) plain) h.0.0).0 in
          subst (λ d. IsAddedTo folds d bytes [] files) top (subst (λ b. IsAddedTo folds read.directory b [] files) h.0.1.1 (subst (λ mid. IsAddedTo folds read.directory read.content [] mid) (sym a.2) a.1))
      by (read ∷ more ∷ reads) e h a = let never : [] ≡ more.value ∷ map value_of reads = later e in absurd (cc)

  -- another file isn't read
  pub not_read : (other : List ℕ) (files : List (File A)) → Lacks 0x3D other → other ≢ name → AreRead (only name bytes) folds (other ∷ []) files → ⊥
  not_read other files plain differs r = by r.reads r.values_are r.have
    where
      by : (reads : List FileRead) → other ∷ [] ≡ map value_of reads → AllByRecursion (WasRead (only name bytes)) reads → ⊥
      by [] e h = cc
      by (read ∷ reads) e h = differs (first e ∙ sym (at_top read.value read.directory read.name (subst (Lacks 0x3D) (first e) plain) h.0.0).1 ∙ h.0.1.0)
