-- How lines that are known are read.
use Rattle.std.proofs.Common.{◌≡◌, ◌≢◌, ◌⊎◌, inl, inr, ℕ, ◌≤◌, Bool, true, false, List, [], ◌∷◌, ◌++◌, length, Result, Ok, Err, MatchResult, refl, sym, ap, subst, arith}
use Rattle.std.specs.Prelude.{codes, IsTrue, OnOk, IfOk, IfErr}
use Rattle.std.specs.List.{AllByRecursion, flat_map}
use Rattle.std.specs.Char.{encode_utf8}
use Rattle.os_command_line.specs.declared.windows.error.CommandLineError.{CommandLineError}
use Rattle.os_command_line.specs.declared.windows.error.CommandLineError.TheVariants.{Nul, Quote, Memory}
use Rattle.os_command_line.specs.PowerShell.{IsPowerShellText}
use Rattle.os_command_line.specs.PowerShell.ReadsString.{doubled as string_doubled, closes as string_closes}
use Rattle.os_command_line.specs.declared.shell.error.ShellError.{ShellError}
use Rattle.os_command_line.specs.declared.shell.error.ShellError.TheVariants as name_error
use Rattle.os_command_line.specs.Shell.{language, is_blank, Begins, IsRead}
use Rattle.os_command_line.specs.Shell.IsGap.{no_gap, blank, line_joined}
use Rattle.os_command_line.specs.Shell.Outcome.{Word}
use Rattle.os_command_line.specs.Shell.Dollared.{nothing as dollar_nothing, itself as dollar_itself}
use Rattle.os_command_line.specs.Shell.IsOpening.{quote as opening_quote, line_joined as opening_joined}
use Rattle.os_command_line.specs.Shell.Reads.{bare as word_bare, dollared as word_dollared, ends as word_ends, special as word_special, unclosed}
use Rattle.os_command_line.specs.ShellWriting.{IsFirstNul, IsNameFault}
use Rattle.os_command_line.specs.Windows.{IsLiteral, IsCommandLine}
use Rattle.os_command_line.specs.Windows.Reads.{ends, literal, opens, closes, doubled}
use Rattle.os_command_line.specs.Windows.ReadsName.{name_ends, name_unit}
use Rattle.os_command_line.specs.WindowsBatch.{IsBatchExtension, IsDropped, IsVerbatim, EndsAsBatch, EndsInDots, NeedsCmd}
use Rattle.os_command_line.specs.WindowsBatch.EndsAsBatch.{here, later}
use Rattle.os_command_line.specs.WindowsBatch.EndsInDots.{here as dots_here, later as dots_later}
use Rattle.os_command_line.specs.WindowsWriting.{IsFirstAt, IsArgumentFault}
use Rattle.test_line_uses.specs.Faults.{special_at, unclosed_at}

heads : {x y : ℕ} {xs ys : List ℕ} → x ∷ xs ≡ y ∷ ys → x ≡ y
heads e = cc

tails : {x y : ℕ} {xs ys : List ℕ} → x ∷ xs ≡ y ∷ ys → xs ≡ ys
tails e = cc

-- ---- a word, and a quote that isn't closed

begins_with : (b : ℕ) (text : List ℕ) → is_blank b ≡ false → b ≢ 0x5C → Begins (b ∷ text)
begins_with b text h n = record { some = λ e. never e; no_blank = λ c rest e. subst (λ x. is_blank x ≡ false) (heads e) h; no_join = λ rest e. n (heads e) }
  where
    never : b ∷ text ≡ [] → ⊥
    never e = cc

pub before_fault : IsRead (language true false) (codes "a 'b") (Ok (codes "a") ∷ Err (unclosed_at 2) ∷ [])
before_fault = (
  codes " 'b",
  record {
    gap = [];
    text = codes "a 'b";
    parts = refl;
    is_gap = no_gap;
    begins = begins_with 0x61 (codes " 'b") refl (λ e. omega (arith, e));
    reads = word_bare true 0x61 (codes " 'b") (Word [] (codes " 'b")) (record { no_mark = refl; no_blank = refl; no_dollar = refl; no_special = refl }) (word_ends false (codes " 'b") refl);
  },
  (
    codes "'b",
    record {
      gap = 0x20 ∷ [];
      text = codes "'b";
      parts = refl;
      is_gap = blank 0x20 [] refl no_gap;
      begins = begins_with 0x27 (codes "b") refl (λ e. omega (arith, e));
      reads = unclosed true (codes "b") (refl, tt);
    },
    refl,
    refl,
  ),
)

pub joined_line : (refuses : Bool) → IsRead (language refuses false) (codes "\\\n") []
joined_line refuses = line_joined [] no_gap

pub joined_dollar : (refuses : Bool) → IsRead (language refuses true) (codes "$\\\n'a'") (Ok (codes "a") ∷ [])
joined_dollar refuses = (
  [],
  record {
    gap = [];
    text = codes "$\\\n'a'";
    parts = refl;
    is_gap = no_gap;
    begins = begins_with 0x24 (codes "\\\n'a'") refl (λ e. omega (arith, e));
    reads = word_dollared true (codes "\\\n'") (codes "a") (codes "a") [] (Word [] []) refl (opening_joined (0x27 ∷ []) opening_quote) (dollar_itself 0x61 [] [] refl refl dollar_nothing) (word_ends false [] tt);
  },
  no_gap,
)

pub before_history : IsRead (language true false) (codes "a !b") (Ok (codes "a") ∷ Err (special_at 2) ∷ [])
before_history = (
  codes " !b",
  record {
    gap = [];
    text = codes "a !b";
    parts = refl;
    is_gap = no_gap;
    begins = begins_with 0x61 (codes " !b") refl (λ e. omega (arith, e));
    reads = word_bare true 0x61 (codes " !b") (Word [] (codes " !b")) (record { no_mark = refl; no_blank = refl; no_dollar = refl; no_special = refl }) (word_ends false (codes " !b") refl);
  },
  (
    codes "!b",
    record {
      gap = 0x20 ∷ [];
      text = codes "!b";
      parts = refl;
      is_gap = blank 0x20 [] refl no_gap;
      begins = begins_with 0x21 (codes "b") refl (λ e. omega (arith, e));
      reads = word_special true 0x21 (codes "b") refl refl refl;
    },
    refl,
    refl,
  ),
)

-- ---- two typographic marks, of which the first escapes the second

pub one_mark : IsPowerShellText (flat_map encode_utf8 (0x27 ∷ 0x201B ∷ 0x201B ∷ 0x27 ∷ [])) (0x201B ∷ [])
one_mark = record {
  characters = 0x27 ∷ 0x201B ∷ 0x201B ∷ 0x27 ∷ [];
  encoded = refl;
  is = record { mark = 0x27; inner = 0x201B ∷ 0x201B ∷ 0x27 ∷ []; begins = refl; is_mark = refl; reads = λ after h. string_doubled 0x201B 0x201B (0x27 ∷ after) [] refl refl (string_closes 0x27 refl h) };
}

pub never_one : (xs : List ℕ) → xs ≡ 0x201B ∷ 0x201B ∷ [] → xs ≡ 0x201B ∷ [] → ⊥
never_one xs e f = omega (arith, ap length e, ap length f)

-- ---- two marks in a quoted part of a command line

letter : (u : ℕ) → u ≢ 0x5C → u ≢ 0x22 → IsLiteral true u
letter u s q = record { no_backslash = s; no_quote = q; no_blank = λ e. absurd (never e) }
  where
    never : true ≡ false → ⊥
    never e = cc

pub doubled_line : IsCommandLine (codes "E \"a\"\" b\"") (codes "E") (codes "a\" b" ∷ [])
unfolding IsCommandLine
doubled_line = (
  codes " \"a\"\" b\"",
  name_unit false 0x45 (codes " \"a\"\" b\"") [] (λ e. omega (arith, e)) (λ _ b. elim b [ inl e ↦ omega (arith, e) | inr e ↦ omega (arith, e) ]) (name_ends false (inl refl)),
  (
    [],
    record {
      blanks = 0x20 ∷ [];
      text = codes "\"a\"\" b\"";
      joined = refl;
      are_blanks = (inl refl, tt);
      begins = λ b. elim b [ inl e ↦ omega (arith, e) | inr e ↦ omega (arith, e) ];
      reads =
          opens 0 (codes "a\"\" b\"") (codes "a\" b")
          (literal true 0 0x61 (codes "\"\" b\"") (codes "\" b") (letter 0x61 (λ e. omega (arith, e)) (λ e. omega (arith, e)))
          (doubled 0 (codes " b\"") (codes " b")
          (literal true 0 0x20 (codes "b\"") (codes "b") (letter 0x20 (λ e. omega (arith, e)) (λ e. omega (arith, e)))
          (literal true 0 0x62 (codes "\"") [] (letter 0x62 (λ e. omega (arith, e)) (λ e. omega (arith, e))) (closes 0 [] [] tt (ends false 0 tt))))));
    },
    tt,
  ),
)

-- ---- a NUL that is second

second_index : (before after : List ℕ) (i : ℕ) → 0x61 ∷ 0 ∷ [] ≡ before ++ 0 ∷ after → AllByRecursion (λ u. u ≢ 0) before → i ≡ length before → i ≡ 1
second_index [] after i e h n = omega (arith, heads e)
second_index (x ∷ []) after i e h n = n
second_index (x ∷ y ∷ xs) after i e h n = absurd (h.1.0 (sym (heads (tails e))))

pub second_fault : (us : List ℕ) (fault : CommandLineError) → us ≡ 0x61 ∷ 0 ∷ [] → IsArgumentFault us fault → (fault ≡ Nul 1) ⊎ (fault ≡ Memory)
second_fault us (Nul i) e h = let f = subst (λ z. IsFirstAt 0 z i) e h in inl (ap Nul (second_index f.before f.after i f.joined f.none_before f.index))
second_fault us (Quote i) e h = absurd h
second_fault us Memory e h = inr refl

pub second_refused : {A : Type 0} (us : List ℕ) (result : Result A CommandLineError) → us ≡ 0x61 ∷ 0 ∷ [] → OnOk result (AllByRecursion (λ u. u ≢ 0) us) → IfErr result (λ fault. IsArgumentFault us fault) → MatchResult result (λ _. ⊥) (λ fault. (fault ≡ Nul 1) ⊎ (fault ≡ Memory))
second_refused us (Ok x) e none fault = let has : AllByRecursion (λ u. u ≢ 0) (0x61 ∷ 0 ∷ []) = subst (AllByRecursion (λ u. u ≢ 0)) e none in has.1.0 refl
second_refused us (Err f) e none fault = second_fault us f e fault

second_name_fault : (name : List ℕ) (fault : ShellError) → name ≡ 0x61 ∷ 0 ∷ [] → IsNameFault name fault → (fault ≡ name_error.Nul 1) ⊎ (fault ≡ name_error.Memory)
second_name_fault name (name_error.Nul i) e h = let f = subst (λ z. IsFirstNul z i) e h in inl (ap name_error.Nul (second_index f.before f.after i f.joined f.none_before f.index_is))
second_name_fault name name_error.Memory e h = inr refl

pub second_name_refused : {A : Type 0} (name : List ℕ) (result : Result A ShellError) → name ≡ 0x61 ∷ 0 ∷ [] → OnOk result (AllByRecursion (λ u. u ≢ 0) name) → IfErr result (λ fault. IsNameFault name fault) → MatchResult result (λ _. ⊥) (λ fault. (fault ≡ name_error.Nul 1) ⊎ (fault ≡ name_error.Memory))
second_name_refused name (Ok x) e none fault = let has : AllByRecursion (λ u. u ≢ 0) (0x61 ∷ 0 ∷ []) = subst (AllByRecursion (λ u. u ≢ 0)) e none in has.1.0 refl
second_name_refused name (Err f) e none fault = second_name_fault name f e fault

-- ---- batch files

pub capitals : NeedsCmd (codes "a.BAT")
capitals = inl (later 0x61 (codes ".BAT") (here 0x42 0x41 0x54 [] (inl (inr refl, inr refl, inr refl)) tt))

pub before_full_stop : NeedsCmd (codes "a.cmd.")
before_full_stop = inl (later 0x61 (codes ".cmd.") (here 0x63 0x6D 0x64 (codes ".") (inr (inl refl, inl refl, inl refl)) ((not_verbatim, inl refl), tt)))
  where
    not_verbatim : ¬ (IsVerbatim (codes "a.cmd."))
    not_verbatim v = omega (arith, heads v.3)

pub before_dot : NeedsCmd (codes "a.bat/.")
before_dot = inr (dots_later true 0x61 (codes ".bat/.") (dots_later false 0x2E (codes "bat/.") (dots_later false 0x62 (codes "at/.") (dots_later false 0x61 (codes "t/.") (dots_later false 0x74 (codes "/.") (dots_later false 0x2F (codes ".") (dots_here 0x2E [] (not_verbatim, inl refl) tt)))))))
  where
    not_verbatim : ¬ (IsVerbatim (codes "a.bat/."))
    not_verbatim v = omega (arith, heads v.3)

-- the last of some units, which is dropped if the last component has only such units
last_of : List ℕ → ℕ
last_of [] = 0
last_of (x ∷ []) = x
last_of (x ∷ y ∷ ys) = last_of (y ∷ ys)

all_last : (dropped : ℕ → Type 0) (u : ℕ) (us : List ℕ) → dropped u → AllByRecursion dropped us → dropped (last_of (u ∷ us))
unfolding last_of
all_last dropped u [] d a = d
all_last dropped u (v ∷ vs) d a = all_last dropped v vs a.0 a.1

some_dots : (dropped : ℕ → Type 0) (first : Bool) (us : List ℕ) → EndsInDots dropped first us → 1 ≤ length us
some_dots dropped _ _ (dots_here u us d a) = omega arith
some_dots dropped _ _ (dots_later first u us e) = omega arith

last_dropped : (dropped : ℕ → Type 0) (first : Bool) (us : List ℕ) → EndsInDots dropped first us → dropped (last_of us)
unfolding last_of
last_dropped dropped _ _ (dots_here u us d a) = all_last dropped u us d a
last_dropped dropped _ _ (dots_later first u [] e) = absurd (omega (arith, some_dots dropped _ [] e))
last_dropped dropped _ _ (dots_later first u (v ∷ vs) e) = last_dropped dropped _ (v ∷ vs) e

pub no_dots : (path : List ℕ) → EndsInDots (IsDropped path) true (codes "a.exe") → ⊥
unfolding last_of
no_dots path h = elim (last_dropped (IsDropped path) true (codes "a.exe") h).1 [ inl e ↦ omega (arith, e) | inr e ↦ omega (arith, e) ]

some_units : (dropped : ℕ → Type 0) (us : List ℕ) → EndsAsBatch dropped us → 4 ≤ length us
some_units dropped _ (here x y z after e d) = omega arith
some_units dropped _ (later u us h) = omega (arith, some_units dropped us h)

pub no_batch_file : (dropped : ℕ → Type 0) (us : List ℕ) → EndsAsBatch dropped us → us ≡ codes "a.exe" → ⊥
no_batch_file dropped _ (here x y z after e d) is = omega (arith, heads is)
no_batch_file dropped _ (later u us h) is = after_first us h (tails is)
  where
    after_first : (us : List ℕ) → EndsAsBatch dropped us → us ≡ codes ".exe" → ⊥
    after_first _ (here x y z after e d) is = other x (heads (tails is)) e
      where
        other : (x : ℕ) → x ≡ 0x65 → IsBatchExtension x y z → ⊥
        other x e b = elim b [
          | inl l ↦ elim l.0 [ inl f ↦ omega (arith, e, f) | inr f ↦ omega (arith, e, f) ]
          | inr l ↦ elim l.0 [ inl f ↦ omega (arith, e, f) | inr f ↦ omega (arith, e, f) ]
        ]
    after_first _ (later u us h) is = omega (arith, some_units dropped us h, ap length (tails is))

pub is_false : (b : Bool) → (IsTrue b → ⊥) → b ≡ false
is_false true n = absurd (n refl)
is_false false n = refl

-- ---- what comes of a success

pub of_ok : {A E : Type 0} (P Q : A → Type 0) (result : Result A E) → ((a : A) → P a → Q a) → IfOk result P → IfOk result Q
of_ok P Q (Ok a) f h = f a h
of_ok P Q (Err e) f h = tt
