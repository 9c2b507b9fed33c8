-- Names on one line are read as these names, in each charset that keeps the bytes on which quotes depend.
use Rattle.std.proofs.Common.{◌≡◌, ◌≢◌, ℕ, ◌<◌, ◌≤◌, Bool, true, false, not, ◌||◌, ◌&&◌, if◌then◌else◌, eqb, ltb, List, [], ◌∷◌, ◌++◌, length, refl, sym, ap, ◌∙◌, subst, arith, append_assoc, append-nil, Option, None, Some, inl, inr, ◌⊎◌}
use Rattle.std.specs.Char.{encode_utf8}
use Rattle.std.specs.List.{All, AllByRecursion, flat_map}
use Rattle.std.proofs.lemmas.Bool.{cases_Bool, eqb-true, lt-ltb, true≢false}
use Rattle.std.proofs.lemmas.Bool.Decides.{nat_tests}
use Rattle.std.proofs.lemmas.List.Elements.{All-from_recursion, recursion_from_All}
use Rattle.std.proofs.lemmas.Str.{encode_ascii}
use Rattle.wtf8_core.specs.Byte.{IsByte}
use Rattle.os_str_ext.specs.Parts.{unit_number}
use Rattle.os_str_ext.specs.Symbols.{symbol_bytes}
use Rattle.os_str_ext.specs.declared.symbols.Symbol.{Symbol}
use Rattle.os_str_ext.specs.declared.symbols.Symbol.TheVariants as symbol
use Rattle.os_quote.specs.Shown.{stays_on_line}
use Rattle.os_command_line.specs.declared.shell.language.Language.{Language}
use Rattle.os_command_line.specs.Shell.{single_quote, backslash, dollar}
use Rattle.os_command_line.specs.ShellCharacters.{IsCharacterText}
use Rattle.os_command_line.specs.ShellWriting.{AreBytes, HasNoNul, letter_for, octal_text, shown_or_octal, character_text, symbol_text, is_escape, is_high, text_after, dollar_text, IsDollarWord, IsLineText, IsLineWord}
use Rattle.os_command_line.proofs.lemmas.CharacterForms.{AreWide, text_form, each_of}
use Rattle.os_command_line.proofs.lemmas.CharsetCuts.{last}
use Rattle.os_command_line.proofs.lemmas.CharsetDollars.{Piece, IsPiece, meaning, rest_text, letters_mean, IsLetterFor, pieces_read}
use Rattle.os_command_line.proofs.lemmas.CharsetDollars.Piece.{Shown, Hidden}
use Rattle.os_command_line.proofs.lemmas.CharsetQuotes.{HasNo, word_is}
use Rattle.os_command_line.proofs.lemmas.Lists.{all_joined, both_parts}
use Rattle.os_command_line.proofs.lemmas.ShellDollar.{IsUnixSymbol, IsItself, past_itself, name_bytes, name_unix, name_whole}
use Rattle.os_command_line.proofs.lemmas.ShellOctal.{IsNameByte}
use Rattle.os_command_line.proofs.lemmas.ShellOnLine.{line_cases}
use Rattle.os_command_line.proofs.lemmas.ShellOneReading.{and_none}
use Rattle.os_command_line.proofs.lemmas.ShellWritten.{some_bytes}

-- bytes that are written by digits
hidden_bytes : List ℕ → List Piece
hidden_bytes [] = []
hidden_bytes (b ∷ bs) = Hidden b None ∷ hidden_bytes bs

abbrev shown_pieces : Bool → ℕ → List Piece
shown_pieces true c = Shown (encode_utf8 c) ∷ []
shown_pieces false c = hidden_bytes (encode_utf8 c)

abbrev character_pieces : ℕ → Option ℕ → List Piece
character_pieces c (Some k) = Hidden c (Some k) ∷ []
character_pieces c None = shown_pieces (stays_on_line c) c

-- the pieces in which a symbol is written
abbrev pieces_of : Symbol → List Piece
pieces_of (symbol.Character c) = character_pieces c (letter_for c)
pieces_of (symbol.Unit u) = Hidden (unit_number u) None ∷ []

abbrev all_pieces : List Symbol → List Piece
all_pieces [] = []
all_pieces (s ∷ symbols) = pieces_of s ++ all_pieces symbols

-- ---- the text

-- a symbol is written, and more after it
record IsStep (before : ℕ) (pieces : List Piece) (s : Symbol) (more : List Piece) : Type 0 where
  next : ℕ
  text : rest_text before (pieces ++ more) ≡ text_after (ltb 0x7F before) s ++ rest_text next more
  high : ltb 0x7F next ≡ is_high s

run_text : (bytes : List ℕ) (more : List Piece) → rest_text 0 (hidden_bytes bytes ++ more) ≡ flat_map octal_text bytes ++ rest_text 0 more
unfolding hidden_bytes
run_text [] more = refl
run_text (b ∷ bytes) more = ap (λ z. octal_text b ++ z) (run_text bytes more)

-- after a byte from 80 on, the quotes end and begin again
abbrev again : Bool → List ℕ → List ℕ
again high text = if high then single_quote ∷ dollar ∷ single_quote ∷ text else text

escape_text : (high : Bool) (s : Symbol) → is_escape s ≡ true → text_after high s ≡ again high (symbol_text s)
escape_text true s e = rw e refl
escape_text false s e = refl

plain_text : (high : Bool) (s : Symbol) → is_escape s ≡ false → text_after high s ≡ symbol_text s
plain_text true s e = rw e refl
plain_text false s e = refl

as_it_is : (c : ℕ) → stays_on_line c ≡ true → shown_or_octal c ≡ encode_utf8 c
as_it_is c e = rw e refl

by_bytes : (c : ℕ) → stays_on_line c ≡ false → shown_or_octal c ≡ flat_map octal_text (encode_utf8 c)
by_bytes c e = rw e refl

and_right : (a b : Bool) → b ≡ true → a && b ≡ a
and_right true b e = e
and_right false b e = refl

hidden_text : (before : ℕ) (bytes : List ℕ) (more : List Piece) → 1 ≤ length bytes → rest_text before (hidden_bytes bytes ++ more) ≡ again (ltb 0x7F before) (flat_map octal_text bytes) ++ rest_text 0 more
unfolding hidden_bytes
hidden_text before [] more h = absurd (omega (arith, h))
hidden_text before (b ∷ bytes) more h = by_high (ltb 0x7F before)
  where
    by_high : (high : Bool) → (if high then single_quote ∷ dollar ∷ single_quote ∷ (octal_text b ++ rest_text 0 (hidden_bytes bytes ++ more)) else octal_text b ++ rest_text 0 (hidden_bytes bytes ++ more)) ≡ again high (flat_map octal_text (b ∷ bytes)) ++ rest_text 0 more
    by_high true = ap (λ z. single_quote ∷ dollar ∷ single_quote ∷ (octal_text b ++ z)) (run_text bytes more)
    by_high false = ap (λ z. octal_text b ++ z) (run_text bytes more)

-- bytes from 80 on end with one
wide_last : (before : ℕ) (xs : List ℕ) → AllByRecursion (λ y. 0x80 ≤ y) xs → 0x80 ≤ before → 0x80 ≤ last before xs
wide_last before [] h e = e
wide_last before (x ∷ xs) h e = wide_last x xs h.1 h.0

some_wide : (before : ℕ) (xs : List ℕ) → AreWide xs → 0x80 ≤ last before xs
some_wide before [] h = absurd h
some_wide before (x ∷ xs) h = wide_last x xs h.1 h.0

past : (b : ℕ) → 0x80 ≤ b → ltb 0x7F b ≡ true
past b h = grind (arith, nat_tests)

is_past : (b : ℕ) → ltb 0x7F b ≡ true → 0x80 ≤ b
is_past b e = grind (arith, nat_tests)

not_past : (b : ℕ) → ltb 0x7F b ≡ false → b < 0x80
not_past b e = grind (arith, nat_tests)

last_high : (before c : ℕ) → ltb 0x7F (last before (encode_utf8 c)) ≡ ltb 0x7F c
last_high before c = elim (cases_Bool (ltb 0x7F c)) [
  | inl e ↦ past (last before (encode_utf8 c)) (some_wide before (encode_utf8 c) (text_form.wide c (is_past c e))) ∙ sym e
  | inr e ↦ ap (λ z. ltb 0x7F (last before z)) (encode_ascii c (not_past c e))
]

cases_option : (o : Option ℕ) → ((k : ℕ) × (o ≡ Some k)) ⊎ (o ≡ None)
cases_option None = inr refl
cases_option (Some k) = inl (k, refl)

-- what has a letter is a character of ASCII that isn't written as it is
record HasLetter (c : ℕ) : Type 0 where
  low : c < 0x80
  escape : is_escape (symbol.Character c) ≡ true
  not_high : is_high (symbol.Character c) ≡ false

no_some : (k : ℕ) → None ≡ Some k → ⊥
no_some k e = cc

letter_facts : (c k : ℕ) → letter_for c ≡ Some k → HasLetter c
letter_facts c k h = elim (cases_Bool (eqb c single_quote)) [
  | inl e ↦ subst HasLetter (sym (eqb-true c single_quote e)) (record { low = omega arith; escape = refl; not_high = refl })
  | inr e ↦ elim (cases_Bool (eqb c backslash)) [
    | inl f ↦ subst HasLetter (sym (eqb-true c backslash f)) (record { low = omega arith; escape = refl; not_high = refl })
    | inr f ↦ elim (cases_Bool (eqb c 0x0A)) [
      | inl g ↦ subst HasLetter (sym (eqb-true c 0x0A g)) (record { low = omega arith; escape = refl; not_high = refl })
      | inr g ↦ elim (cases_Bool (eqb c 0x09)) [
        | inl i ↦ subst HasLetter (sym (eqb-true c 0x09 i)) (record { low = omega arith; escape = refl; not_high = refl })
        | inr i ↦ elim (cases_Bool (eqb c 0x0D)) [
          | inl j ↦ subst HasLetter (sym (eqb-true c 0x0D j)) (record { low = omega arith; escape = refl; not_high = refl })
          | inr j ↦ (let n : letter_for c ≡ None = rw (e, f, g, i, j) refl in absurd (no_some k (sym n ∙ h)))
        ]
      ]
    ]
  ]
]

-- what has no letter is no single quote and no backslash
no_letter : (c : ℕ) → letter_for c ≡ None → IsItself c
no_letter c h = elim (cases_Bool (eqb c single_quote)) [
  | inl e ↦ absurd (no_some single_quote (sym h ∙ ap letter_for (eqb-true c single_quote e)))
  | inr e ↦ elim (cases_Bool (eqb c backslash)) [
    | inl f ↦ absurd (no_some backslash (sym h ∙ ap letter_for (eqb-true c backslash f)))
    | inr f ↦ (e, f)
  ]
]

escape_is : (c : ℕ) → IsItself c → is_escape (symbol.Character c) ≡ not (stays_on_line c)
escape_is c i = rw (i.0, i.1) refl

symbol_step : (before : ℕ) (s : Symbol) (more : List Piece) → IsStep before (pieces_of s) s more
symbol_step before (symbol.Unit u) more = record { next = 0; text = of_unit (ltb 0x7F before); high = refl }
  where
    of_unit : (high : Bool) → (if high then single_quote ∷ dollar ∷ single_quote ∷ (octal_text (unit_number u) ++ rest_text 0 more) else octal_text (unit_number u) ++ rest_text 0 more) ≡ text_after high (symbol.Unit u) ++ rest_text 0 more
    of_unit true = refl
    of_unit false = refl
symbol_step before (symbol.Character c) more = elim (cases_option (letter_for c)) [
  | inl x ↦ (let f = letter_facts c x.0 x.1 in record {
    next = 0;
    text = ap (λ o. rest_text before (character_pieces c o ++ more)) x.1 ∙ by_letter x.0 (ltb 0x7F before) ∙ ap (λ z. z ++ rest_text 0 more) (sym (escape_text (ltb 0x7F before) (symbol.Character c) f.escape ∙ ap (again (ltb 0x7F before)) (ap (character_text c) x.1)));
    high = sym f.not_high;
  })
  | inr x ↦ (let i = no_letter c x in elim (cases_Bool (stays_on_line c)) [
    | inl e ↦ record {
      next = last before (encode_utf8 c);
      text = ap (λ o. rest_text before (character_pieces c o ++ more)) x ∙ ap (λ b. rest_text before (shown_pieces b c ++ more)) e ∙ ap (λ z. z ++ rest_text (last before (encode_utf8 c)) more) (sym (plain_text (ltb 0x7F before) (symbol.Character c) (escape_is c i ∙ ap not e) ∙ ap (character_text c) x ∙ as_it_is c e));
      high = last_high before c ∙ sym (and_right (ltb 0x7F c) (stays_on_line c) e);
    }
    | inr e ↦ record {
      next = 0;
      text =
          ap (λ o. rest_text before (character_pieces c o ++ more)) x
          ∙ ap (λ b. rest_text before (shown_pieces b c ++ more)) e
          ∙ hidden_text before (encode_utf8 c) more (some_bytes c)
          ∙ ap (λ z. z ++ rest_text 0 more) (sym (escape_text (ltb 0x7F before) (symbol.Character c) (escape_is c i ∙ ap not e) ∙ ap (again (ltb 0x7F before)) (ap (character_text c) x ∙ by_bytes c e)));
      high = sym (and_none (ltb 0x7F c) (stays_on_line c) e);
    }
  ])
]
  where
    by_letter : (k : ℕ) (high : Bool) → (if high then single_quote ∷ dollar ∷ single_quote ∷ backslash ∷ k ∷ rest_text 0 more else backslash ∷ k ∷ rest_text 0 more) ≡ again high (backslash ∷ k ∷ []) ++ rest_text 0 more
    by_letter k true = refl
    by_letter k false = refl

pieces_text : (before : ℕ) (symbols : List Symbol) → rest_text before (all_pieces symbols) ≡ dollar_text (ltb 0x7F before) symbols
pieces_text before [] = refl
pieces_text before (s ∷ symbols) =
    let t = symbol_step before s (all_pieces symbols) in
    t.text ∙ ap (λ z. text_after (ltb 0x7F before) s ++ z) (pieces_text t.next symbols ∙ ap (λ h. dollar_text h symbols) t.high)

-- ---- what is meant

meaning_parts : (a b : List Piece) → meaning (a ++ b) ≡ meaning a ++ meaning b
meaning_parts [] b = refl
meaning_parts (Shown bytes ∷ a) b = ap (λ z. bytes ++ z) (meaning_parts a b) ∙ sym (append_assoc bytes (meaning a) (meaning b))
meaning_parts (Hidden x o ∷ a) b = ap (λ z. x ∷ z) (meaning_parts a b)

hidden_meaning : (bytes : List ℕ) → meaning (hidden_bytes bytes) ≡ bytes
unfolding hidden_bytes
hidden_meaning [] = refl
hidden_meaning (b ∷ bytes) = ap (λ z. b ∷ z) (hidden_meaning bytes)

symbol_meaning : (s : Symbol) → IsUnixSymbol s → meaning (pieces_of s) ≡ symbol_bytes s
symbol_meaning (symbol.Unit u) lt = sym (rw (lt-ltb (unit_number u) 0x100 lt) refl)
symbol_meaning (symbol.Character c) u = elim (cases_option (letter_for c)) [
  | inl x ↦ (let f = letter_facts c x.0 x.1 in ap (λ o. meaning (character_pieces c o)) x.1 ∙ sym (encode_ascii c f.low))
  | inr x ↦ elim (cases_Bool (stays_on_line c)) [
    | inl e ↦ ap (λ o. meaning (character_pieces c o)) x ∙ ap (λ b. meaning (shown_pieces b c)) e ∙ append-nil (encode_utf8 c)
    | inr e ↦ ap (λ o. meaning (character_pieces c o)) x ∙ ap (λ b. meaning (shown_pieces b c)) e ∙ hidden_meaning (encode_utf8 c)
  ]
]

all_meaning : (symbols : List Symbol) → AllByRecursion IsUnixSymbol symbols → meaning (all_pieces symbols) ≡ flat_map symbol_bytes symbols
all_meaning [] u = refl
all_meaning (s ∷ symbols) u = meaning_parts (pieces_of s) (all_pieces symbols) ∙ ap (λ z. z ++ meaning (all_pieces symbols)) (symbol_meaning s u.0) ∙ ap (λ z. symbol_bytes s ++ z) (all_meaning symbols u.1)

-- ---- each piece is one

hidden_are : (bytes : List ℕ) → AllByRecursion IsNameByte bytes → AllByRecursion IsPiece (hidden_bytes bytes)
unfolding hidden_bytes
hidden_are [] h = tt
hidden_are (b ∷ bytes) h = ((h.0, tt), hidden_are bytes h.1)

symbol_are : (s : Symbol) → IsUnixSymbol s → AllByRecursion IsNameByte (symbol_bytes s) → AllByRecursion IsPiece (pieces_of s)
symbol_are (symbol.Unit u) lt h =
    let one : symbol_bytes (symbol.Unit u) ≡ unit_number u ∷ [] = rw (lt-ltb (unit_number u) 0x100 lt) refl in
    (((subst (AllByRecursion IsNameByte) one h).0, tt), tt)
symbol_are (symbol.Character c) u h = elim (cases_option (letter_for c)) [
  | inl x ↦ (let f = letter_facts c x.0 x.1 in
      let byte : IsNameByte c = (subst (AllByRecursion IsNameByte) (encode_ascii c f.low) h).0 in
      subst (λ o. AllByRecursion IsPiece (character_pieces c o)) (sym x.1) ((byte, subst (IsLetterFor c) x.1 (letters_mean c)), tt))
  | inr x ↦ (let i = no_letter c x in elim (cases_Bool (stays_on_line c)) [
    | inl e ↦ subst (λ o. AllByRecursion IsPiece (character_pieces c o)) (sym x) (subst (λ b. AllByRecursion IsPiece (shown_pieces b c)) (sym e) ((shown_no single_quote i.0 (λ b k. (past_itself b k).0), shown_no backslash i.1 (λ b k. (past_itself b k).1)), tt))
    | inr e ↦ subst (λ o. AllByRecursion IsPiece (character_pieces c o)) (sym x) (subst (λ b. AllByRecursion IsPiece (shown_pieces b c)) (sym e) (hidden_are (encode_utf8 c) h))
  ])
]
  where
    shown_no : (k : ℕ) → eqb c k ≡ false → ((b : ℕ) → 0x80 ≤ b → eqb b k ≡ false) → HasNo k (encode_utf8 c)
    shown_no k e f = each_of (λ b. eqb b k ≡ false) f encode_utf8 text_form c e

all_are : (symbols : List Symbol) → AllByRecursion IsUnixSymbol symbols → AllByRecursion IsNameByte (flat_map symbol_bytes symbols) → AllByRecursion IsPiece (all_pieces symbols)
all_are [] u h = tt
all_are (s ∷ symbols) u h =
    let m = both_parts IsNameByte (symbol_bytes s) (flat_map symbol_bytes symbols) h in
    all_joined IsPiece (pieces_of s) (all_pieces symbols) (symbol_are s u.0 m.0) (all_are symbols u.1 m.1)

-- ---- words

-- a name in dollar-single-quotes is read as the name, where they are read
dollar_is : (l : Language) (name text : List ℕ) → l.dollar_quotes ≡ true → All IsByte name → HasNoNul name → IsDollarWord name text → IsCharacterText l text name
dollar_is l name text d w n is =
    let whole = name_whole name text w is in
    let unix = name_unix name text w is in
    let are = all_are is.symbols unix (subst (AllByRecursion IsNameByte) (sym whole) (name_bytes name (recursion_from_All IsByte name w) n)) in
    let read = pieces_read l d (all_pieces is.symbols) are in
    let written = ap (λ z. dollar ∷ single_quote ∷ (z ++ single_quote ∷ [])) (pieces_text 0 is.symbols) in
    subst (λ z. IsCharacterText l z name) (sym is.text_is) (subst (λ z. IsCharacterText l z name) written (subst (IsCharacterText l (dollar ∷ single_quote ∷ (rest_text 0 (all_pieces is.symbols) ++ single_quote ∷ []))) (all_meaning is.symbols unix ∙ whole) read))

-- and so is its word on one line
pub line_is : (l : Language) (name text : List ℕ) → l.dollar_quotes ≡ true → AreBytes name → HasNoNul name → IsLineWord name text → IsCharacterText l text name
line_is l name text d w n is = elim (line_cases name) [
  | inl t ↦ subst (λ z. IsCharacterText l z name) (sym (is.shown t)) (word_is l name w)
  | inr h ↦ dollar_is l name text d (All-from_recursion (λ b. b < 0x100) name w) n (is.hidden h)
]

-- where each of its characters stays on the line, it is read also by a shell without such quotes
pub shown_is : (l : Language) (name text : List ℕ) → AreBytes name → IsLineText name → IsLineWord name text → IsCharacterText l text name
shown_is l name text w t is = subst (λ z. IsCharacterText l z name) (sym (is.shown t)) (word_is l name w)

pub line_text : (l : Language) (name text : List ℕ) → l.dollar_quotes ≡ true → All IsByte name → HasNoNul name → IsLineWord name text → IsCharacterText l text name
line_text l name text d w n is = line_is l name text d (recursion_from_All IsByte name w) n is
