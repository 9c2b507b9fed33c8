-- How the arguments that filter names by the patterns of one file are read, and what they request.
use Rattle.std.proofs.Common.{◌≡◌, ◌≢◌, inl, inr, ℕ, ◌+◌, Bool, true, false, ◌↔◌, List, [], ◌∷◌, ◌++◌, length, map, get_or, refl, sym, ap, ◌∙◌, subst, arith, Option, Some, None, Ok}
use Rattle.std.specs.Prelude.{codes, IsTrue}
use denote.Ref.{Bor}
use Rattle.wtf8_core.specs.Occurrence.{OccursNowhere}
use Rattle.os_args.specs.Word.{Kind, Long, Value, dashes, equals}
use Rattle.os_args.specs.Reading.{Reading, StartsWithDashes, TakesWord, TakesValue, words_left}
use Rattle.program_frame.specs.Os.{os_word}
use Rattle.program_frame.specs.declared.os.Os.{Os}
use Rattle.program_frame.specs.declared.os.Os.TheVariants.{Unix}
use Rattle.list_programs.specs.Arguments.{AreGiven, AreValues, HasOption, LastValue, TakesAll}
use Rattle.list_programs.specs.declared.arguments.Given.TheVariants.{Operand, Valued}
use Rattle.list_programs.specs.declared.options.ListOptions.{ListOptions}
use Rattle.names_commands.specs.Command.{IsListed, IsMax, Line}
use Rattle.names_commands.specs.Operands.{HasPlatform, first_of}
use Rattle.names_commands.specs.Options.{has_value, name_of, spelled}
use Rattle.names_commands.specs.Pick.{ArePatterns, in_any_folder}
use Rattle.names_commands.specs.declared.option.NamesOption.{NamesOption}
use Rattle.names_commands.specs.declared.option.NamesOption.TheVariants as option
use Rattle.test_command_uses.specs.OneFile.{usual}
use Rattle.test_command_uses.specs.OneGlobFile.{filtering_from}
use Rattle.test_command_uses.proofs.GivenWords.{OneValue, OneWord, ascii_text, head_is, nil_is, no_end, none_taken, nowhere_cons, nowhere_nil, operand_taken, option_taken}
use Rattle.test_command_uses.proofs.KnownLists.{is_usual_list}
use Rattle.test_command_uses.proofs.LineWords.{first, later}

no_equals : OccursNowhere equals (codes "globs-from")
no_equals =
    nowhere_cons 103 (codes "lobs-from") (omega arith)
    (nowhere_cons 108 (codes "obs-from") (omega arith)
    (nowhere_cons 111 (codes "bs-from") (omega arith)
    (nowhere_cons 98 (codes "s-from") (omega arith)
    (nowhere_cons 115 (codes "-from") (omega arith)
    (nowhere_cons 45 (codes "from") (omega arith)
    (nowhere_cons 102 (codes "rom") (omega arith)
    (nowhere_cons 114 (codes "om") (omega arith)
    (nowhere_cons 111 (codes "m") (omega arith)
    (nowhere_cons 109 [] (omega arith) nowhere_nil)))))))))

only_from : (it : NamesOption) → codes "globs-from" ≡ name_of it → it ≡ option.GlobsFrom
only_from option.Help e = let n : ◌≡◌ {A = ℕ} 108 101 = ap (λ w. get_or w 1 0) e in absurd (omega (arith, n))
only_from option.Version e = let n : ◌≡◌ {A = ℕ} 108 101 = ap (λ w. get_or w 1 0) e in absurd (omega (arith, n))
only_from option.Max e = let n : ◌≡◌ {A = ℕ} 108 97 = ap (λ w. get_or w 1 0) e in absurd (omega (arith, n))
only_from option.Sh e = let n : ◌≡◌ {A = ℕ} 108 104 = ap (λ w. get_or w 1 0) e in absurd (omega (arith, n))
only_from option.ShLine e = let n : ◌≡◌ {A = ℕ} 108 104 = ap (λ w. get_or w 1 0) e in absurd (omega (arith, n))
only_from option.Lines e = let n : ◌≡◌ {A = ℕ} 108 105 = ap (λ w. get_or w 1 0) e in absurd (omega (arith, n))
only_from option.Empty e = let n : ◌≡◌ {A = ℕ} 108 109 = ap (λ w. get_or w 1 0) e in absurd (omega (arith, n))
only_from option.Unterminated e = let n : ◌≡◌ {A = ℕ} 108 110 = ap (λ w. get_or w 1 0) e in absurd (omega (arith, n))
only_from option.Glob e = let n : ◌≡◌ {A = ℕ} 115 0 = ap (λ w. get_or w 4 0) e in absurd (omega (arith, n))
only_from option.Name e = let n : ◌≡◌ {A = ℕ} 108 97 = ap (λ w. get_or w 1 0) e in absurd (omega (arith, n))
only_from option.Ignore e = let n : ◌≡◌ {A = ℕ} 108 103 = ap (λ w. get_or w 1 0) e in absurd (omega (arith, n))
only_from option.Invert e = let n : ◌≡◌ {A = ℕ} 108 110 = ap (λ w. get_or w 1 0) e in absurd (omega (arith, n))
only_from option.IgnoreCase e = let n : ◌≡◌ {A = ℕ} 108 103 = ap (λ w. get_or w 1 0) e in absurd (omega (arith, n))
only_from option.Exclude e = let n : ◌≡◌ {A = ℕ} 108 120 = ap (λ w. get_or w 1 0) e in absurd (omega (arith, n))
only_from option.GlobsFrom e = refl
only_from option.ExitStatus e = let n : ◌≡◌ {A = ℕ} 108 120 = ap (λ w. get_or w 1 0) e in absurd (omega (arith, n))

-- two operands, the command and the platform, and the option with its file
pub record AreFiltering (file : List ℕ) (given : Line) : Type 0 where
  pub command : Bor (List ℕ)
  pub platform : Bor (List ℕ)
  pub value : Bor (List ℕ)
  pub given_are : given ≡ Operand command ∷ Operand platform ∷ Valued option.GlobsFrom value ∷ []
  pub command_is : command.now ≡ codes "filter"
  pub platform_is : platform.now ≡ codes "unix"
  pub value_is : value.now ≡ file

-- how the words are read
module _ (file : List ℕ) where
  abbrev at : ℕ → Option Kind → Reading
  at index last = record { given = filtering_from file; index = index; pending = []; ended = false; numbers = false; last = last }

  abbrev from : Option Kind
  from = Some (Long (codes "globs-from"))

  operand_next : (index c : ℕ) (w : List ℕ) (more : List (List ℕ)) → words_left (at index None) ≡ (c ∷ w) ∷ more → c ≢ 45 → TakesWord (at index None) (Ok (Some (Value (c ∷ w)))) (at (index + 1) None)
  operand_next index c w more is differs = inr (record {
    none_pending = refl;
    between = at index None;
    skips = inr (λ s. differs (head_is (head_is (sym is ∙ s.first))), refl);
    word = c ∷ w;
    more = more;
    next = is;
    read = inr (inr (record { value = refl; whole = refl; operand = inr (inl (λ p. differs (head_is p.joined))) }));
    same = refl;
  })

  filter_next : TakesWord (at 0 None) (Ok (Some (Value (codes "filter")))) (at 1 None)
  filter_next = operand_next 0 102 (codes "ilter") (codes "unix" ∷ codes "--globs-from" ∷ file ∷ []) refl (omega arith)

  unix_next : TakesWord (at 1 None) (Ok (Some (Value (codes "unix")))) (at 2 None)
  unix_next = operand_next 1 117 (codes "nix") (codes "--globs-from" ∷ file ∷ []) refl (omega arith)

  option_no_dashes : ¬ (StartsWithDashes (at 2 None))
  option_no_dashes s = let lengths : ◌≡◌ {A = ℕ} 12 2 = ap length (head_is s.first) in omega (arith, lengths)

  option_next : TakesWord (at 2 None) (Ok (Some (Long (codes "globs-from")))) (at 3 from)
  option_next = inr (record {
    none_pending = refl;
    between = at 2 None;
    skips = inr (option_no_dashes, refl);
    word = codes "--globs-from";
    more = file ∷ [];
    next = refl;
    read = inl (record {
      text = codes "globs-from";
      joined = refl;
      some = λ e. nil_is (sym e);
      named = (ascii_text (codes "globs-from") (omega arith, (omega arith, (omega arith, (omega arith, (omega arith, (omega arith, (omega arith, (omega arith, (omega arith, (omega arith, tt)))))))))), record { joined = refl; no_equals = no_equals; end = inl refl });
    });
    same = refl;
  })

  file_next : TakesValue (at 3 from) (Ok file) (at 4 from)
  file_next = inr (refl, record { more = []; next = refl; same = refl })

  end_next : TakesWord (at 4 from) (Ok None) (at 4 from)
  end_next = record { none_pending = refl; skips = inr (λ s. let never : [] ≡ dashes ∷ s.more = s.first in cc, refl); none_left = refl }

  module _ (one_word : OneWord) (one_value : OneValue) (read after : Reading) (end : TakesWord read (Ok None) after) where
    fourth : (rest : Line) → TakesAll spelled has_value (at 4 from) rest read → rest ≡ []
    fourth [] t = refl
    fourth (one ∷ rest) t = absurd (none_taken one_word one_value (at 4 from) end_next one t.0 t.1)

    third : (command platform : Bor (List ℕ)) → command.now ≡ codes "filter" → platform.now ≡ codes "unix" → (rest : Line) → TakesAll spelled has_value (at 2 None) rest read → AreFiltering file (Operand command ∷ Operand platform ∷ rest)
    third command platform c p [] t = absurd (no_end one_word one_value (subst (λ r. TakesWord r (Ok None) after) t end) option_next)
    third command platform c p (one ∷ rest) t =
        let it = option_taken one_word one_value option.GlobsFrom only_from refl (at 2 None) (at 3 from) (at 4 from) file option_next file_next one t.0 t.1 in
        let none = fourth rest (subst (λ r. TakesAll spelled has_value r rest read) it.1.1.1 t.2) in
        record {
          command = command;
          platform = platform;
          value = it.0;
          given_are = ap (λ x. Operand command ∷ Operand platform ∷ x ∷ rest) it.1.0 ∙ ap (λ x. Operand command ∷ Operand platform ∷ Valued option.GlobsFrom it.0 ∷ x) none;
          command_is = c;
          platform_is = p;
          value_is = it.1.1.0;
        }

    second : (command : Bor (List ℕ)) → command.now ≡ codes "filter" → (rest : Line) → TakesAll spelled has_value (at 1 None) rest read → AreFiltering file (Operand command ∷ rest)
    second command c [] t = absurd (no_end one_word one_value (subst (λ r. TakesWord r (Ok None) after) t end) unix_next)
    second command c (one ∷ rest) t =
        let it = operand_taken one_word one_value (at 1 None) (at 2 None) (codes "unix") unix_next one t.0 t.1 in
        subst (λ x. AreFiltering file (Operand command ∷ x ∷ rest)) (sym it.1.0)
        (third command it.0 c it.1.1.0 rest (subst (λ r. TakesAll spelled has_value r rest read) it.1.1.1 t.2))

    starting : (given : Line) → TakesAll spelled has_value (at 0 None) given read → AreFiltering file given
    starting [] t = absurd (no_end one_word one_value (subst (λ r. TakesWord r (Ok None) after) t end) filter_next)
    starting (one ∷ rest) t =
        let it = operand_taken one_word one_value (at 0 None) (at 1 None) (codes "filter") filter_next one t.0 t.1 in
        subst (λ x. AreFiltering file (x ∷ rest)) (sym it.1.0)
        (second it.0 it.1.1.0 rest (subst (λ r. TakesAll spelled has_value r rest read) it.1.1.1 t.2))

  pub are_filtering : OneWord → OneValue → (given : Line) → AreGiven spelled has_value (filtering_from file) given → AreFiltering file given
  are_filtering one_word one_value given g = starting one_word one_value g.read g.after g.end given g.are

-- what the options and operands request
module _ (command platform value : Bor (List ℕ)) where
  abbrev pub given_from : Line
  given_from = Operand command ∷ Operand platform ∷ Valued option.GlobsFrom value ∷ []

  -- the file is the only one of patterns
  pub one_file : (files : List (List ℕ)) → AreValues option.GlobsFrom given_from files → files ≡ value.now ∷ []
  one_file files (inl k) = absurd k.2.0
  one_file files (inr k) = by k.1
    where
      last : AreValues option.GlobsFrom (Valued option.GlobsFrom value ∷ []) files → files ≡ value.now ∷ []
      last (inl k) = k.2.1.1 ∙ ap (λ x. k.0 ∷ x) k.2.1.0 ∙ ap (λ x. x ∷ []) (sym k.2.0.1)
      last (inr k) = absurd (k.0 value.now (refl, refl))

      by : AreValues option.GlobsFrom (Operand platform ∷ Valued option.GlobsFrom value ∷ []) files → files ≡ value.now ∷ []
      by (inl k) = absurd k.2.0
      by (inr k) = last k.1

  -- no other option has a value
  pub no_values : (it : NamesOption) → (option.GlobsFrom ≡ it → ⊥) → (values : List (List ℕ)) → AreValues it given_from values → values ≡ []
  no_values it other values (inl k) = absurd k.2.0
  no_values it other values (inr k) = by k.1
    where
      last : AreValues it (Valued option.GlobsFrom value ∷ []) values → values ≡ []
      last (inl k) = absurd (other k.2.0.0)
      last (inr k) = k.1

      by : AreValues it (Operand platform ∷ Valued option.GlobsFrom value ∷ []) values → values ≡ []
      by (inl k) = absurd k.2.0
      by (inr k) = last k.1

  no_limit : (number : List ℕ) → ¬ (LastValue option.Max given_from None (Some number))
  no_limit number (inl k) = k.1.0
  no_limit number (inr k) = by k.1
    where
      last : ¬ (LastValue option.Max (Valued option.GlobsFrom value ∷ []) None (Some number))
      last (inl k) = let never : option.GlobsFrom ≡ option.Max = k.1.0.0 in cc
      last (inr k) = let never : Some number ≡ None = k.1 in cc

      by : ¬ (LastValue option.Max (Operand platform ∷ Valued option.GlobsFrom value ∷ []) None (Some number))
      by (inl k) = k.1.0
      by (inr k) = last k.1

  usual_max : (max : ℕ) → IsMax given_from max → max ≡ 1048576
  usual_max max (inl m) = m.1
  usual_max max (inr m) = absurd (no_limit m.0 m.1.0)

  -- and none is given
  pub no_other : (it : NamesOption) → (option.GlobsFrom ≡ it → ⊥) → ¬ (HasOption it given_from)
  no_other it other (inl h) = h
  no_other it other (inr (inl h)) = h
  no_other it other (inr (inr (inl h))) = other h
  no_other it other (inr (inr (inr h))) = h

  pub not_stated : (it : NamesOption) → (option.GlobsFrom ≡ it → ⊥) → (stated : Bool) → (IsTrue stated ↔ HasOption it given_from) → stated ≡ false
  not_stated it other true is = absurd (no_other it other (is.0 refl))
  not_stated it other false is = refl

  -- so the list is written as usual
  pub usual_list : (list : ListOptions) → IsListed given_from list → list ≡ usual
  usual_list = is_usual_list given_from (no_other option.Lines (λ e. cc)) (no_other option.Unterminated (λ e. cc)) usual_max

  -- the only operand after the command is the platform
  pub is_unix : platform.now ≡ codes "unix" → (os : Os) (more : List (List ℕ)) → HasPlatform (platform.now ∷ []) os more → (codes "unix" ≡ os_word os) × (more ≡ [])
  is_unix is os more (inl has) = (sym is ∙ first has, sym (later has))
  is_unix is os more (inr has) = absurd (has.1.0 Unix is)

  -- so no argument is a pattern
  pub no_patterns : platform.now ≡ codes "unix" → (plain : ℕ) (globs : List (List ℕ)) → ArePatterns given_from plain globs → globs ≡ []
  no_patterns is plain globs patterns =
      let of = patterns.3.0 in
      let own : patterns.0 ≡ [] = of.2.1 ∙ ap first_of (is_unix is of.0 of.1 of.2.0).1 in
      let more : patterns.1 ≡ [] = no_values option.Glob (λ e. cc) patterns.1 patterns.3.1.0 in
      let of_names : patterns.2 ≡ [] = no_values option.Name (λ e. cc) patterns.2 patterns.3.1.1.0 in
      patterns.3.1.1.1.0 ∙ ap (λ x. x ++ map in_any_folder patterns.2) (ap (λ x. x ++ patterns.1) own ∙ more) ∙ ap (map in_any_folder) of_names
