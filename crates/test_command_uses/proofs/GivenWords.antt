-- How the arguments that state a command for names of Unix and one ignore file are read, and that they are read in no other way.
use Rattle.std.proofs.Common.{◌≡◌, ◌≢◌, inl, inr, ℕ, ◌+◌, ◌<◌, Bool, true, false, List, [], ◌∷◌, ◌++◌, length, get_or, refl, sym, ap, ◌∙◌, subst, arith, Option, Some, None, Result, Ok, Err}
use Rattle.std.specs.Prelude.{codes}
use Rattle.std.specs.Str.{IsUtf8}
use Rattle.std.specs.List.{AllByRecursion}
use Rattle.std.proofs.lemmas.List.Elements.{All-from_recursion}
use Rattle.std.proofs.lemmas.Str.{IsUtf8-from_ascii, encode_ascii}
use Rattle.std.proofs.lemmas.Str.Ascii.{IsAscii-from_all}
use denote.Ref.{Bor}
use Rattle.wtf8_core.specs.Occurrence.{IsPrefix, OccursNowhere}
use Rattle.os_args.specs.Word.{Kind, Long, Short, Value, dash, dashes, equals}
use Rattle.os_args.specs.Reading.{Fault, Reading, StartsWithDashes, TakesWord, TakesValue, words_left}
use Rattle.list_programs.specs.Arguments.{AreGiven, FailsAt, HasFault, IsOption, Takes, TakesAll}
use Rattle.list_programs.specs.declared.arguments.Given.{Given}
use Rattle.list_programs.specs.declared.arguments.Given.TheVariants.{Operand, Flag, Valued}
use Rattle.names_commands.specs.Command.{Line, name_word}
use Rattle.names_commands.specs.Options.{IsFlagOf, has_value, name_of, spelled}
use Rattle.names_commands.specs.declared.command.Name.{Name}
use Rattle.names_commands.specs.declared.command.Name.TheVariants as name
use Rattle.names_commands.specs.declared.option.NamesOption.{NamesOption}
use Rattle.names_commands.specs.declared.option.NamesOption.TheVariants as option
use Rattle.test_command_uses.specs.OneFile.{asking, case_words}

pub ascii_text : (s : List ℕ) → AllByRecursion (λ b. b < 0x80) s → IsUtf8 s
ascii_text s h = IsUtf8-from_ascii s (IsAscii-from_all s (All-from_recursion (λ b. b < 0x80) s h))

pub head_is : {X : Type 0} {x y : X} {xs ys : List X} → x ∷ xs ≡ y ∷ ys → x ≡ y
head_is e = cc

tail_is : {X : Type 0} {x y : X} {xs ys : List X} → x ∷ xs ≡ y ∷ ys → xs ≡ ys
tail_is e = cc

pub nil_is : {x : ℕ} {xs : List ℕ} → [] ≡ x ∷ xs → ⊥
nil_is e = cc

-- a byte that isn't `=` before bytes without one
pub nowhere_nil : OccursNowhere equals []
nowhere_nil i o = by o.before o.joined
  where
    by : (before : List ℕ) → [] ≡ before ++ (equals ++ o.after) → ⊥
    by [] e = nil_is e
    by (b ∷ before) e = nil_is e

pub nowhere_cons : (x : ℕ) (s : List ℕ) → x ≢ 61 → OccursNowhere equals s → OccursNowhere equals (x ∷ s)
nowhere_cons x s differs none i o = by o.before o.joined
  where
    by : (before : List ℕ) → x ∷ s ≡ before ++ (equals ++ o.after) → ⊥
    by [] e = differs (head_is e)
    by (b ∷ before) e = none (length before) (record { before = before; after = o.after; joined = tail_is e; index = refl })

no_equals : OccursNowhere equals (codes "ignore")
no_equals =
    nowhere_cons 105 (codes "gnore") (omega arith)
    (nowhere_cons 103 (codes "nore") (omega arith)
    (nowhere_cons 110 (codes "ore") (omega arith)
    (nowhere_cons 111 (codes "re") (omega arith)
    (nowhere_cons 114 (codes "e") (omega arith)
    (nowhere_cons 101 [] (omega arith) nowhere_nil)))))

-- the second letter of an option's name
abbrev second : NamesOption → ℕ
second it = get_or (name_of it) 1 0

only_ignore : (it : NamesOption) → codes "ignore" ≡ name_of it → it ≡ option.Ignore
only_ignore option.Help e = let n : ◌≡◌ {A = ℕ} 103 101 = ap (λ w. get_or w 1 0) e in absurd (omega (arith, n))
only_ignore option.Version e = let n : ◌≡◌ {A = ℕ} 103 101 = ap (λ w. get_or w 1 0) e in absurd (omega (arith, n))
only_ignore option.Max e = let n : ◌≡◌ {A = ℕ} 103 97 = ap (λ w. get_or w 1 0) e in absurd (omega (arith, n))
only_ignore option.Sh e = let n : ◌≡◌ {A = ℕ} 103 104 = ap (λ w. get_or w 1 0) e in absurd (omega (arith, n))
only_ignore option.ShLine e = let n : ◌≡◌ {A = ℕ} 103 104 = ap (λ w. get_or w 1 0) e in absurd (omega (arith, n))
only_ignore option.Lines e = let n : ◌≡◌ {A = ℕ} 103 105 = ap (λ w. get_or w 1 0) e in absurd (omega (arith, n))
only_ignore option.Empty e = let n : ◌≡◌ {A = ℕ} 103 109 = ap (λ w. get_or w 1 0) e in absurd (omega (arith, n))
only_ignore option.Unterminated e = let n : ◌≡◌ {A = ℕ} 103 110 = ap (λ w. get_or w 1 0) e in absurd (omega (arith, n))
only_ignore option.Glob e = let n : ◌≡◌ {A = ℕ} 103 108 = ap (λ w. get_or w 1 0) e in absurd (omega (arith, n))
only_ignore option.Name e = let n : ◌≡◌ {A = ℕ} 103 97 = ap (λ w. get_or w 1 0) e in absurd (omega (arith, n))
only_ignore option.Ignore e = refl
only_ignore option.Invert e = let n : ◌≡◌ {A = ℕ} 103 110 = ap (λ w. get_or w 1 0) e in absurd (omega (arith, n))
only_ignore option.IgnoreCase e = let n : ◌≡◌ {A = ℕ} 0 45 = ap (λ w. get_or w 6 0) e in absurd (omega (arith, n))
only_ignore option.Exclude e = let n : ◌≡◌ {A = ℕ} 103 120 = ap (λ w. get_or w 1 0) e in absurd (omega (arith, n))
only_ignore option.GlobsFrom e = let n : ◌≡◌ {A = ℕ} 103 108 = ap (λ w. get_or w 1 0) e in absurd (omega (arith, n))
only_ignore option.ExitStatus e = let n : ◌≡◌ {A = ℕ} 103 120 = ap (λ w. get_or w 1 0) e in absurd (omega (arith, n))

only_case : (it : NamesOption) → IsFlagOf it 0x69 → it ≡ option.IgnoreCase
only_case option.Help e = absurd (omega (arith, e))
only_case option.Version e = absurd (omega (arith, e))
only_case option.Max e = absurd e
only_case option.Sh e = absurd e
only_case option.ShLine e = absurd e
only_case option.Lines e = absurd e
only_case option.Empty e = absurd e
only_case option.Unterminated e = absurd e
only_case option.Glob e = absurd e
only_case option.Name e = absurd e
only_case option.Ignore e = absurd e
only_case option.Invert e = absurd (omega (arith, e))
only_case option.IgnoreCase e = refl
only_case option.Exclude e = absurd e
only_case option.GlobsFrom e = absurd e
only_case option.ExitStatus e = absurd e

-- the option that disregards case, or none
abbrev pub case_flags : Bool → Line
case_flags true = Flag option.IgnoreCase ∷ []
case_flags false = []

-- a step of reading has one outcome
abbrev pub OneWord : Type 0
OneWord = (before : Reading) → (one other : Result (Option Kind) Fault) → (after left : Reading) → TakesWord before one after → TakesWord before other left → (one ≡ other) × (after ≡ left)

abbrev pub OneValue : Type 0
OneValue = (before : Reading) → (one other : Result (List ℕ) Fault) → (after left : Reading) → TakesValue before one after → TakesValue before other left → (one ≡ other) × (after ≡ left)

module _ (command : Name) (folds : Bool) (file : List ℕ) where
  -- so many arguments are read, and this was the last option
  abbrev at : ℕ → Option Kind → Reading
  at index last = record { given = asking command folds file; index = index; pending = []; ended = false; numbers = false; last = last }

  abbrev ignoring : Option Kind
  ignoring = Some (Long (codes "ignore"))

  no_dash : (c : ℕ) (w : List ℕ) → c ≢ 45 → ¬ (IsPrefix dash (c ∷ w))
  no_dash c w differs p = differs (head_is p.joined)

  no_dashes : (index c : ℕ) (w : List ℕ) (more : List (List ℕ)) → words_left (at index None) ≡ (c ∷ w) ∷ more → c ≢ 45 → ¬ (StartsWithDashes (at index None))
  no_dashes index c w more is differs s = differs (head_is (head_is (sym is ∙ s.first)))

  operand_next : (index c : ℕ) (w : List ℕ) (more : List (List ℕ)) → words_left (at index None) ≡ (c ∷ w) ∷ more → c ≢ 45 → TakesWord (at index None) (Ok (Some (Value (c ∷ w)))) (at (index + 1) None)
  operand_next index c w more is differs = inr (record {
    none_pending = refl;
    between = at index None;
    skips = inr (no_dashes index c w more is differs, refl);
    word = c ∷ w;
    more = more;
    next = is;
    read = inr (inr (record { value = refl; whole = refl; operand = inr (inl (no_dash c w differs)) }));
    same = refl;
  })

  platform_next : TakesWord (at 1 None) (Ok (Some (Value (codes "unix")))) (at 2 None)
  platform_next = operand_next 1 117 (codes "nix") (codes "--ignore" ∷ file ∷ case_words folds) refl (omega arith)

  option_no_dashes : ¬ (StartsWithDashes (at 2 None))
  option_no_dashes s = let lengths : ◌≡◌ {A = ℕ} 8 2 = ap length (head_is s.first) in omega (arith, lengths)

  option_next : TakesWord (at 2 None) (Ok (Some (Long (codes "ignore")))) (at 3 ignoring)
  option_next = inr (record {
    none_pending = refl;
    between = at 2 None;
    skips = inr (option_no_dashes, refl);
    word = codes "--ignore";
    more = file ∷ case_words folds;
    next = refl;
    read = inl (record {
      text = codes "ignore";
      joined = refl;
      some = λ e. nil_is (sym e);
      named = (ascii_text (codes "ignore") (omega arith, (omega arith, (omega arith, (omega arith, (omega arith, (omega arith, tt)))))), record { joined = refl; no_equals = no_equals; end = inl refl });
    });
    same = refl;
  })

  file_next : TakesValue (at 3 ignoring) (Ok file) (at 4 ignoring)
  file_next = inr (refl, record { more = case_words folds; next = refl; same = refl })

-- where case matters, nothing is left then
module _ (command : Name) (file : List ℕ) where
  end_no_dashes : ¬ (StartsWithDashes (at command false file 4 (ignoring command false file)))
  end_no_dashes s = let never : [] ≡ dashes ∷ s.more = s.first in absurd (cc)

  end_next : TakesWord (at command false file 4 (ignoring command false file)) (Ok None) (at command false file 4 (ignoring command false file))
  end_next = record { none_pending = refl; skips = inr (end_no_dashes, refl); none_left = refl }

  -- and where it doesn't, this is left
  abbrev in_either_case : Option Kind
  in_either_case = Some (Short 0x69)

  flag_no_dashes : ¬ (StartsWithDashes (at command true file 4 (ignoring command true file)))
  flag_no_dashes s = let letters : ◌≡◌ {A = ℕ} 105 45 = ap (λ w. get_or w 1 0) (head_is s.first) in omega (arith, letters)

  flag_next : TakesWord (at command true file 4 (ignoring command true file)) (Ok (Some (Short 0x69))) (at command true file 5 in_either_case)
  flag_next = inr (record {
    none_pending = refl;
    between = at command true file 4 (ignoring command true file);
    skips = inr (flag_no_dashes, refl);
    word = codes "-i";
    more = [];
    next = refl;
    read = inr (inl (record {
      flags = codes "i";
      joined = refl;
      some = λ e. nil_is (sym e);
      one_dash = no_dash command true file 105 [] (omega arith);
      no_number = λ never. let no : false ≡ true = never in absurd (cc);
      flag = (refl, sym (ap (λ x. x ++ []) (encode_ascii 105 (omega arith))));
    }));
    same = refl;
  })

  flag_end_no_dashes : ¬ (StartsWithDashes (at command true file 5 in_either_case))
  flag_end_no_dashes s = let never : [] ≡ dashes ∷ s.more = s.first in absurd (cc)

  flag_end : TakesWord (at command true file 5 in_either_case) (Ok None) (at command true file 5 in_either_case)
  flag_end = record { none_pending = refl; skips = inr (flag_end_no_dashes, refl); none_left = refl }

-- the command is the first operand
command_next : (command : Name) (folds : Bool) (file : List ℕ) → TakesWord (at command folds file 0 None) (Ok (Some (Value (name_word command)))) (at command folds file 1 None)
command_next name.List folds file = operand_next name.List folds file 0 108 (codes "ist") (codes "unix" ∷ codes "--ignore" ∷ file ∷ case_words folds) refl (omega arith)
command_next name.Filter folds file = operand_next name.Filter folds file 0 102 (codes "ilter") (codes "unix" ∷ codes "--ignore" ∷ file ∷ case_words folds) refl (omega arith)
command_next name.Why folds file = operand_next name.Why folds file 0 119 (codes "hy") (codes "unix" ∷ codes "--ignore" ∷ file ∷ case_words folds) refl (omega arith)
command_next name.Join folds file = operand_next name.Join folds file 0 106 (codes "oin") (codes "unix" ∷ codes "--ignore" ∷ file ∷ case_words folds) refl (omega arith)
command_next name.Check folds file = operand_next name.Check folds file 0 99 (codes "heck") (codes "unix" ∷ codes "--ignore" ∷ file ∷ case_words folds) refl (omega arith)
command_next name.Tar folds file = operand_next name.Tar folds file 0 116 (codes "ar") (codes "unix" ∷ codes "--ignore" ∷ file ∷ case_words folds) refl (omega arith)

-- two operands, the command and the platform, the option with its file, and the one that disregards case, or none
pub record AreAsking (which : Name) (folds : Bool) (file : List ℕ) (given : Line) : Type 0 where
  pub command : Bor (List ℕ)
  pub platform : Bor (List ℕ)
  pub value : Bor (List ℕ)
  pub given_are : given ≡ Operand command ∷ Operand platform ∷ Valued option.Ignore value ∷ case_flags folds
  pub command_is : command.now ≡ name_word which
  pub platform_is : platform.now ≡ codes "unix"
  pub value_is : value.now ≡ file

module _ (one_word : OneWord) (one_value : OneValue) where
  -- what a step reads is what it reads
  same_kind : {r after next : Reading} {kind other : Kind} → TakesWord r (Ok (Some kind)) after → TakesWord r (Ok (Some other)) next → (kind ≡ other) × (after ≡ next)
  same_kind {r} {after} {next} {kind} {other} h k =
      let both = one_word r (Ok (Some kind)) (Ok (Some other)) after next h k in
      let is : kind ≡ other = let e = both.0 in cc in
      (is, both.1)

  no_fault : {r after next : Reading} {kind : Kind} {fault : Fault} → TakesWord r (Err fault) after → TakesWord r (Ok (Some kind)) next → ⊥
  no_fault {r} {after} {next} {kind} {fault} h k = let never = (one_word r (Err fault) (Ok (Some kind)) after next h k).0 in cc

  pub no_end : {r after next : Reading} {kind : Kind} → TakesWord r (Ok None) after → TakesWord r (Ok (Some kind)) next → ⊥
  no_end {r} {after} {next} {kind} h k = let never = (one_word r (Ok None) (Ok (Some kind)) after next h k).0 in cc

  one_operand : {a b : List ℕ} → Value a ≡ Value b → a ≡ b
  one_operand e = cc

  one_long : {a b : List ℕ} → Long a ≡ Long b → a ≡ b
  one_long e = cc

  -- where an operand is next, it is read
  module _ (r next : Reading) (word : List ℕ) (step : TakesWord r (Ok (Some (Value word))) next) where
    no_option : (it : NamesOption) (kind : Kind) → spelled it kind → kind ≡ Value word → ⊥
    no_option it kind is e = subst (spelled it) e is

    operand_fails : (fault : Fault) → ¬ (FailsAt spelled has_value r fault)
    operand_fails fault (inl f) = no_fault f.1 step
    operand_fails fault (inr (inl f)) = subst IsOption (same_kind f.taken step).0 f.option
    operand_fails fault (inr (inr f)) = no_option f.option f.kind f.is (same_kind f.taken step).0

    pub operand_taken : (one : Given NamesOption) (after : Reading) → Takes spelled has_value r one after → (held : Bor (List ℕ)) × ((one ≡ Operand held) × ((held.now ≡ word) × (after ≡ next)))
    operand_taken (Operand held) after t = let both = same_kind t step in (held, (refl, (one_operand both.0, both.1)))
    operand_taken (Flag it) after t = absurd (no_option it t.0 t.1.0.0 (same_kind t.1.1 step).0)
    operand_taken (Valued it value) after t = absurd (no_option it t.0 t.2.0.0 (same_kind t.2.1.0 step).0)

  -- where an option with a value is next, it is read with its value
  module _ (it : NamesOption) (only : (other : NamesOption) → name_of it ≡ name_of other → other ≡ it) (valued : has_value it ≡ true) (r mid next : Reading) (text : List ℕ) (step : TakesWord r (Ok (Some (Long (name_of it)))) mid) (given : TakesValue mid (Ok text) next) where
    is_it : (other : NamesOption) (kind : Kind) → spelled other kind → kind ≡ Long (name_of it) → other ≡ it
    is_it other kind is e = only other (subst (spelled other) e is)

    not_flag : (other : NamesOption) → other ≡ it → has_value other ≡ false → ⊥
    not_flag other is e = let never : true ≡ false = sym valued ∙ sym (ap has_value is) ∙ e in cc

    option_fails : (fault : Fault) → ¬ (FailsAt spelled has_value r fault)
    option_fails fault (inl f) = no_fault f.1 step
    option_fails fault (inr (inl f)) = f.unknown it (subst (spelled it) (sym (same_kind f.taken step).0) refl)
    option_fails fault (inr (inr f)) =
        let lacks = subst (λ m. TakesValue m (Err fault) f.after) (same_kind f.taken step).1 f.missing in
        let never = (one_value mid (Err fault) (Ok text) f.after next lacks given).0 in
        cc

    pub option_taken : (one : Given NamesOption) (after : Reading) → Takes spelled has_value r one after → (held : Bor (List ℕ)) × ((one ≡ Valued it held) × ((held.now ≡ text) × (after ≡ next)))
    option_taken (Operand held) after t = let never = (same_kind t step).0 in absurd (cc)
    option_taken (Flag other) after t = absurd (not_flag other (is_it other t.0 t.1.0.0 (same_kind t.1.1 step).0) t.1.0.1)
    option_taken (Valued other held) after t =
        let both = same_kind t.2.1.0 step in
        let is = is_it other t.0 t.2.0.0 both.0 in
        let value = subst (λ m. TakesValue m (Ok held.now) after) both.1 t.2.1.1 in
        let same = one_value mid (Ok held.now) (Ok text) after next value given in
        let is_text : held.now ≡ text = let e = same.0 in cc in
        (held, (ap (λ i. Valued i held) is, (is_text, same.1)))

  -- where the option that disregards case is next, it is read
  module _ (r next : Reading) (step : TakesWord r (Ok (Some (Short 0x69))) next) where
    is_case : (it : NamesOption) (kind : Kind) → spelled it kind → kind ≡ Short 0x69 → it ≡ option.IgnoreCase
    is_case it kind is e = only_case it (subst (spelled it) e is)

    not_valued : (it : NamesOption) → it ≡ option.IgnoreCase → has_value it ≡ true → ⊥
    not_valued it is e = let never : false ≡ true = sym (ap has_value is) ∙ e in cc

    flag_fails : (fault : Fault) → ¬ (FailsAt spelled has_value r fault)
    flag_fails fault (inl f) = no_fault f.1 step
    flag_fails fault (inr (inl f)) = f.unknown option.IgnoreCase (subst (spelled option.IgnoreCase) (sym (same_kind f.taken step).0) refl)
    flag_fails fault (inr (inr f)) = not_valued f.option (is_case f.option f.kind f.is (same_kind f.taken step).0) f.valued

    flag_taken : (one : Given NamesOption) (after : Reading) → Takes spelled has_value r one after → (one ≡ Flag option.IgnoreCase) × (after ≡ next)
    flag_taken (Operand held) after t = let never = (same_kind t step).0 in absurd (cc)
    flag_taken (Flag it) after t =
        let both = same_kind t.1.1 step in
        (ap Flag (is_case it t.0 t.1.0.0 both.0), both.1)
    flag_taken (Valued it held) after t = absurd (not_valued it (is_case it t.0 t.2.0.0 (same_kind t.2.1.0 step).0) t.2.0.1)

  -- where nothing is next, nothing is read
  module _ (r : Reading) (end : TakesWord r (Ok None) r) where
    end_fails : (fault : Fault) → ¬ (FailsAt spelled has_value r fault)
    end_fails fault (inl f) = let never = (one_word r (Err fault) (Ok None) f.0 r f.1 end).0 in cc
    end_fails fault (inr (inl f)) = no_end end f.taken
    end_fails fault (inr (inr f)) = no_end end f.taken

    pub none_taken : (one : Given NamesOption) (after : Reading) → ¬ (Takes spelled has_value r one after)
    none_taken (Operand held) after t = no_end end t
    none_taken (Flag it) after t = no_end end t.1.1
    none_taken (Valued it value) after t = no_end end t.2.1.0

  -- what is left after the file has no fault, and is the option that disregards case, or nothing
  module _ (which : Name) (file : List ℕ) (read : Reading) where
    no_fault_left : (folds : Bool) (fault : Fault) (given : Line) → FailsAt spelled has_value read fault → TakesAll spelled has_value (at which folds file 4 (ignoring which folds file)) given read → ⊥
    no_fault_left false fault [] fails t = end_fails (at which false file 4 (ignoring which false file)) (end_next which file) fault (subst (λ r. FailsAt spelled has_value r fault) t fails)
    no_fault_left false fault (one ∷ given) fails t = none_taken (at which false file 4 (ignoring which false file)) (end_next which file) one t.0 t.1
    no_fault_left true fault [] fails t = flag_fails (at which true file 4 (ignoring which true file)) (at which true file 5 (in_either_case which file)) (flag_next which file) fault (subst (λ r. FailsAt spelled has_value r fault) t fails)
    no_fault_left true fault (one ∷ given) fails t =
        no_fault_then given (subst (λ r. TakesAll spelled has_value r given read) (flag_taken (at which true file 4 (ignoring which true file)) (at which true file 5 (in_either_case which file)) (flag_next which file) one t.0 t.1).1 t.2)
      where
        no_fault_then : (given : Line) → TakesAll spelled has_value (at which true file 5 (in_either_case which file)) given read → ⊥
        no_fault_then [] u = end_fails (at which true file 5 (in_either_case which file)) (flag_end which file) fault (subst (λ r. FailsAt spelled has_value r fault) u fails)
        no_fault_then (other ∷ given) u = none_taken (at which true file 5 (in_either_case which file)) (flag_end which file) other u.0 u.1

    left_is : (folds : Bool) (after : Reading) → TakesWord read (Ok None) after → (given : Line) → TakesAll spelled has_value (at which folds file 4 (ignoring which folds file)) given read → given ≡ case_flags folds
    left_is false after end [] t = refl
    left_is false after end (one ∷ given) t = absurd (none_taken (at which false file 4 (ignoring which false file)) (end_next which file) one t.0 t.1)
    left_is true after end [] t = absurd (no_end (subst (λ r. TakesWord r (Ok None) after) t end) (flag_next which file))
    left_is true after end (one ∷ given) t =
        let it = flag_taken (at which true file 4 (ignoring which true file)) (at which true file 5 (in_either_case which file)) (flag_next which file) one t.0 t.1 in
        ap (λ x. x ∷ given) it.0 ∙ ap (λ x. Flag option.IgnoreCase ∷ x) (none_then given (subst (λ r. TakesAll spelled has_value r given read) it.1 t.2))
      where
        none_then : (given : Line) → TakesAll spelled has_value (at which true file 5 (in_either_case which file)) given read → given ≡ []
        none_then [] u = refl
        none_then (other ∷ given) u = absurd (none_taken (at which true file 5 (in_either_case which file)) (flag_end which file) other u.0 u.1)

  module _ (which : Name) (folds : Bool) (file : List ℕ) where
    -- the arguments have no fault
    pub no_fault_of : (fault : Fault) → ¬ (HasFault spelled has_value (asking which folds file) fault)
    no_fault_of fault h = first h.given h.are
      where
        third : (given : Line) → TakesAll spelled has_value (at which folds file 2 None) given h.at → ⊥
        third [] t = option_fails option.Ignore only_ignore refl (at which folds file 2 None) (at which folds file 3 (ignoring which folds file)) (at which folds file 4 (ignoring which folds file)) file (option_next which folds file) (file_next which folds file) fault (subst (λ r. FailsAt spelled has_value r fault) t h.fails)
        third (one ∷ given) t = no_fault_left which file h.at folds fault given h.fails (subst (λ r. TakesAll spelled has_value r given h.at) (option_taken option.Ignore only_ignore refl (at which folds file 2 None) (at which folds file 3 (ignoring which folds file)) (at which folds file 4 (ignoring which folds file)) file (option_next which folds file) (file_next which folds file) one t.0 t.1).1.1.1 t.2)

        second_one : (given : Line) → TakesAll spelled has_value (at which folds file 1 None) given h.at → ⊥
        second_one [] t = operand_fails (at which folds file 1 None) (at which folds file 2 None) (codes "unix") (platform_next which folds file) fault (subst (λ r. FailsAt spelled has_value r fault) t h.fails)
        second_one (one ∷ given) t = third given (subst (λ r. TakesAll spelled has_value r given h.at) (operand_taken (at which folds file 1 None) (at which folds file 2 None) (codes "unix") (platform_next which folds file) one t.0 t.1).1.1.1 t.2)

        first : (given : Line) → TakesAll spelled has_value (at which folds file 0 None) given h.at → ⊥
        first [] t = operand_fails (at which folds file 0 None) (at which folds file 1 None) (name_word which) (command_next which folds file) fault (subst (λ r. FailsAt spelled has_value r fault) t h.fails)
        first (one ∷ given) t = second_one given (subst (λ r. TakesAll spelled has_value r given h.at) (operand_taken (at which folds file 0 None) (at which folds file 1 None) (name_word which) (command_next which folds file) one t.0 t.1).1.1.1 t.2)

  -- the arguments are read so
  module _ (which : Name) (folds : Bool) (file : List ℕ) (read after : Reading) (end : TakesWord read (Ok None) after) where
    last : (command platform value : Bor (List ℕ)) → command.now ≡ name_word which → platform.now ≡ codes "unix" → value.now ≡ file → (rest : Line) → TakesAll spelled has_value (at which folds file 4 (ignoring which folds file)) rest read → AreAsking which folds file (Operand command ∷ Operand platform ∷ Valued option.Ignore value ∷ rest)
    last command platform value c p v rest t = record {
      command = command;
      platform = platform;
      value = value;
      given_are = ap (λ x. Operand command ∷ Operand platform ∷ Valued option.Ignore value ∷ x) (left_is which file read folds after end rest t);
      command_is = c;
      platform_is = p;
      value_is = v;
    }

    third : (command platform : Bor (List ℕ)) → command.now ≡ name_word which → platform.now ≡ codes "unix" → (rest : Line) → TakesAll spelled has_value (at which folds file 2 None) rest read → AreAsking which folds file (Operand command ∷ Operand platform ∷ rest)
    third command platform c p [] t = absurd (no_end (subst (λ r. TakesWord r (Ok None) after) t end) (option_next which folds file))
    third command platform c p (one ∷ rest) t =
        let it = option_taken option.Ignore only_ignore refl (at which folds file 2 None) (at which folds file 3 (ignoring which folds file)) (at which folds file 4 (ignoring which folds file)) file (option_next which folds file) (file_next which folds file) one t.0 t.1 in
        subst (λ x. AreAsking which folds file (Operand command ∷ Operand platform ∷ x ∷ rest)) (sym it.1.0)
        (last command platform it.0 c p it.1.1.0 rest (subst (λ r. TakesAll spelled has_value r rest read) it.1.1.1 t.2))

    second_one : (command : Bor (List ℕ)) → command.now ≡ name_word which → (rest : Line) → TakesAll spelled has_value (at which folds file 1 None) rest read → AreAsking which folds file (Operand command ∷ rest)
    second_one command c [] t = absurd (no_end (subst (λ r. TakesWord r (Ok None) after) t end) (platform_next which folds file))
    second_one command c (one ∷ rest) t =
        let it = operand_taken (at which folds file 1 None) (at which folds file 2 None) (codes "unix") (platform_next which folds file) one t.0 t.1 in
        subst (λ x. AreAsking which folds file (Operand command ∷ x ∷ rest)) (sym it.1.0)
        (third command it.0 c it.1.1.0 rest (subst (λ r. TakesAll spelled has_value r rest read) it.1.1.1 t.2))

    first : (given : Line) → TakesAll spelled has_value (at which folds file 0 None) given read → AreAsking which folds file given
    first [] t = absurd (no_end (subst (λ r. TakesWord r (Ok None) after) t end) (command_next which folds file))
    first (one ∷ rest) t =
        let it = operand_taken (at which folds file 0 None) (at which folds file 1 None) (name_word which) (command_next which folds file) one t.0 t.1 in
        subst (λ x. AreAsking which folds file (x ∷ rest)) (sym it.1.0)
        (second_one it.0 it.1.1.0 rest (subst (λ r. TakesAll spelled has_value r rest read) it.1.1.1 t.2))

  pub are_asking : (which : Name) (folds : Bool) (file : List ℕ) (given : Line) → AreGiven spelled has_value (asking which folds file) given → AreAsking which folds file given
  are_asking which folds file given g = first which folds file g.read g.after g.end given g.are
