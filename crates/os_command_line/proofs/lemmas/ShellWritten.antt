-- Words as they are written, and how long they are.
use Rattle.std.proofs.Common.{◌≡◌, ◌≢◌, ◌⊎◌, ℕ, ◌+◌, ◌*◌, ◌<◌, ◌≤◌, Bool, true, false, ◌&&◌, eqb, List, [], ◌∷◌, ◌++◌, length, refl, sym, ap, ◌∙◌, subst, arith, append_assoc, append-nil, length-append, if◌then◌else◌, inl, inr, ltb, Some}
use Rattle.std.specs.Char.{encode_utf8}
use Rattle.std.specs.List.{All, AllByRecursion, flat_map}
use Rattle.std.proofs.lemmas.Bool.{cases_Bool, eqb-true}
use Rattle.std.proofs.lemmas.Bool.Decides.{nat_tests}
use Rattle.std.proofs.lemmas.Str.{length-encode, len_utf8_bounds}
use Rattle.wtf8_core.specs.Byte.{IsByte}
use Rattle.wtf8_core.specs.PartUnits.{unit_bytes}
use Rattle.wtf8_core.proofs.lemmas.forms.ByStd.{form_encode}
use Rattle.platform_str.specs.PlatformWords.{itself}
use Rattle.platform_str.specs.platforms.Unix.{unix_laws, unix_parts}
use Rattle.os_str_ext.specs.Parts.{unit_number}
use Rattle.os_str_ext.specs.Symbols.{AreSymbols, symbols_of, symbol_bytes}
use Rattle.os_str_ext.specs.declared.symbols.Symbol.{Symbol}
use Rattle.os_str_ext.specs.declared.symbols.Symbol.TheVariants as symbol
use Rattle.wtf8_core.proofs.lemmas.chunks.OneList.{some_chunks}
use Rattle.os_str_ext.specs.Chunks.{chunks_of}
use Rattle.os_str_ext.proofs.lemmas.SymbolBytes.{symbols_joined}
use Rattle.os_quote.specs.Shown.{stays_on_line}
use Rattle.os_command_line.specs.Shell.{single_quote, backslash, newline, escape_meaning, HasNoQuote}
use Rattle.os_command_line.specs.ShellSteps.{AreUnmarked, IsCutAtMarked, ends_line, form_text}
use Rattle.os_command_line.specs.declared.shell.form.Form.{Form}
use Rattle.os_command_line.specs.declared.shell.form.Form.TheVariants.{Bare, Single, Dollar}
use Rattle.os_command_line.specs.ShellWriting.{caret, is_marked, single_byte, single_text, single_quoted, letter_for, octal_text, shown_or_octal, character_text, symbol_text, is_escape, is_high, text_after, dollar_text, IsDollarWord}
use Rattle.os_command_line.proofs.lemmas.ShellOneReading.{and_none, or_false, or_true}

-- ---- single quotes

as_it_is : (first : Bool) (b : ℕ) → is_marked b ≡ false → single_byte first b ≡ b ∷ []
as_it_is true b e = let n = or_false (eqb b single_quote) (eqb b caret) e in rw (n.0, n.1) refl
as_it_is false b e = let n = or_false (eqb b single_quote) (eqb b caret) e in rw n.0 refl

-- bytes that are written as they are, and what follows them
unmarked_text : (first : Bool) (a b : List ℕ) → AreUnmarked a → single_text first (a ++ b) ≡ a ++ single_text (ends_line first a) b
unmarked_text first [] b h = refl
unmarked_text first (x ∷ a) b h = ap (λ z. z ++ single_text (eqb x newline) (a ++ b)) (as_it_is first x h.0) ∙ ap (λ z. x ∷ z) (unmarked_text (eqb x newline) a b h.1)

-- what comes after the first single quote
abbrev pub inner_text : List ℕ → List ℕ
inner_text bytes = single_text false bytes ++ single_quote ∷ []

pub marked_low : (b : ℕ) → is_marked b ≡ true → b < 0x80
marked_low b e = grind (arith, nat_tests)

not_newline : (b : ℕ) → is_marked b ≡ true → eqb b newline ≡ false
not_newline b e = grind (arith, nat_tests)

-- up to the first byte that isn't written as it is, and after it
pub cut_text : (bytes prefix after : List ℕ) (b : ℕ) → IsCutAtMarked bytes prefix b after → inner_text bytes ≡ prefix ++ (single_byte (ends_line false prefix) b ++ inner_text after)
cut_text bytes prefix after b k =
    let first = ends_line false prefix in
    let next = ap (λ z. single_byte first b ++ single_text z after) (not_newline b k.marked) in
    ap (λ z. z ++ single_quote ∷ []) (ap (single_text false) k.joined ∙ unmarked_text false prefix (b ∷ after) k.unmarked_before ∙ ap (λ z. prefix ++ z) next)
    ∙ append_assoc prefix (single_byte first b ++ single_text false after) (single_quote ∷ [])
    ∙ ap (λ z. prefix ++ z) (append_assoc (single_byte first b) (single_text false after) (single_quote ∷ []))

pub shown_text : (bytes : List ℕ) → AreUnmarked bytes → inner_text bytes ≡ bytes ++ single_quote ∷ []
shown_text bytes h = ap (λ z. z ++ single_quote ∷ []) (ap (single_text false) (sym (append-nil bytes)) ∙ unmarked_text false bytes [] h ∙ append-nil bytes)

pub cut_shorter : (bytes prefix after : List ℕ) (b : ℕ) → IsCutAtMarked bytes prefix b after → length after < length bytes
cut_shorter bytes prefix after b k = omega (arith, ap length k.joined, length-append prefix (b ∷ after))

last_decides : (first : Bool) (xs : List ℕ) (x : ℕ) → ends_line first (xs ++ x ∷ []) ≡ eqb x newline
last_decides first [] x = refl
last_decides first (y ∷ xs) x = last_decides (eqb y newline) xs x

pub last_on_line : (bytes before : List ℕ) (last : ℕ) → bytes ≡ before ++ last ∷ [] → ends_line false bytes ≡ eqb last newline
last_on_line bytes before last e = ap (ends_line false) e ∙ last_decides false before last

pub marked_quote : (first : Bool) (b : ℕ) → b ≡ single_quote → single_byte first b ≡ single_quote ∷ backslash ∷ single_quote ∷ single_quote ∷ []
marked_quote first b e = ap (single_byte first) e

pub marked_caret : (first : Bool) (b : ℕ) → is_marked b ≡ true → b ≢ single_quote → single_byte first b ≡ (if first then single_quote ∷ single_quote ∷ caret ∷ [] else caret ∷ [])
marked_caret first b e n = ap (single_byte first) (is_caret (or_true (eqb b single_quote) (eqb b caret) e)) ∙ by first
  where
    is_caret : (eqb b single_quote ≡ true) ⊎ (eqb b caret ≡ true) → b ≡ caret
    is_caret (inl q) = absurd (n (eqb-true b single_quote q))
    is_caret (inr q) = eqb-true b caret q

    by : (first : Bool) → single_byte first caret ≡ (if first then single_quote ∷ single_quote ∷ caret ∷ [] else caret ∷ [])
    by true = refl
    by false = refl

-- text without newlines has no line but the first
pub on_one_line : (bytes : List ℕ) → AllByRecursion (λ b. eqb b newline ≡ false) bytes → single_text false bytes ≡ flat_map (single_byte false) bytes
on_one_line [] h = refl
on_one_line (b ∷ bytes) h = ap (λ z. single_byte false b ++ single_text z bytes) h.0 ∙ ap (λ z. single_byte false b ++ z) (on_one_line bytes h.1)

pub single_plain : (bytes : List ℕ) → HasNoQuote bytes → flat_map (single_byte false) bytes ≡ bytes
single_plain [] h = refl
single_plain (b ∷ bytes) h = rw h.0 (ap (λ z. b ∷ z) (single_plain bytes h.1))

byte_len : (first : Bool) (b : ℕ) → length (single_byte first b) ≤ 4
byte_len first b = elim (cases_Bool (eqb b single_quote)) [
  | inl e ↦ rw e (omega arith)
  | inr e ↦ elim (cases_Bool (first && eqb b caret)) [ inl f ↦ rw (e, f) (omega arith) | inr f ↦ rw (e, f) (omega arith) ]
]

pub bytes_len : (first : Bool) (bytes : List ℕ) → length (single_text first bytes) ≤ 4 * length bytes
bytes_len first [] = omega arith
bytes_len first (b ∷ bytes) = omega (arith, byte_len first b, bytes_len (eqb b newline) bytes, length-append (single_byte first b) (single_text (eqb b newline) bytes))

pub single_len : (name : List ℕ) → length (single_quoted name) ≤ 4 * length name + 3
single_len name = omega (arith, bytes_len false name, length-append (single_text false name) (single_quote ∷ []))

-- ---- dollar-single-quotes

-- what holds of each letter after a backslash, and of a character that has none, holds of what means a character
pub by_letter : (P : ℕ → List ℕ → Type 0) (c : ℕ) → ((letter x : ℕ) → x < 0x80 → escape_meaning (letter ∷ []) ≡ Some x → (letter < 0x80) × (stays_on_line letter ≡ true) → P x (backslash ∷ letter ∷ [])) → (eqb c 0x27 ≡ false → eqb c 0x5C ≡ false → P c (shown_or_octal c)) → P c (character_text c (letter_for c))
by_letter P c some none = elim (cases_Bool (eqb c 0x27)) [
  | inl e ↦ is 0x27 e (some 0x27 0x27 (omega arith) refl (omega arith, refl))
  | inr e ↦ elim (cases_Bool (eqb c 0x5C)) [
    | inl f ↦ is 0x5C f (some 0x5C 0x5C (omega arith) refl (omega arith, refl))
    | inr f ↦ elim (cases_Bool (eqb c 0x0A)) [
      | inl g ↦ is 0x0A g (some 0x6E 0x0A (omega arith) refl (omega arith, refl))
      | inr g ↦ elim (cases_Bool (eqb c 0x09)) [
        | inl h ↦ is 0x09 h (some 0x74 0x09 (omega arith) refl (omega arith, refl))
        | inr h ↦ elim (cases_Bool (eqb c 0x0D)) [
          | inl i ↦ is 0x0D i (some 0x72 0x0D (omega arith) refl (omega arith, refl))
          | inr i ↦ subst (P c) (sym (no_letter e f g h i)) (none e f)
        ]
      ]
    ]
  ]
]
  where
    is : (x : ℕ) → eqb c x ≡ true → P x (character_text x (letter_for x)) → P c (character_text c (letter_for c))
    is x e p = subst (λ y. P y (character_text y (letter_for y))) (sym (eqb-true c x e)) p

    no_letter : eqb c 0x27 ≡ false → eqb c 0x5C ≡ false → eqb c 0x0A ≡ false → eqb c 0x09 ≡ false → eqb c 0x0D ≡ false → character_text c (letter_for c) ≡ shown_or_octal c
    no_letter e f g h i = rw (e, f, g, h, i) refl

octals_len : (bytes : List ℕ) → length (flat_map octal_text bytes) ≡ 4 * length bytes
octals_len [] = refl
octals_len (b ∷ bytes) = omega (arith, octals_len bytes)

pub some_bytes : (c : ℕ) → 1 ≤ length (encode_utf8 c)
some_bytes c = omega (arith, length-encode c, (len_utf8_bounds c).0)

unit_len : (u : ℕ) → 1 ≤ length (unit_bytes u)
unit_len u = elim (cases_Bool (ltb u 0x100)) [ inl e ↦ rw e (omega arith) | inr e ↦ rw e (omega (arith, ap length (form_encode u), some_bytes u)) ]

-- how many bytes more may come before an escape, after a byte from 80 on or not
abbrev extra : Bool → ℕ
extra true = 3
extra false = 0

at_most : (high : Bool) → extra high ≤ 3
at_most true = omega arith
at_most false = omega arith

symbol_len : (s : Symbol) → length (symbol_text s) + extra (is_high s) ≤ 4 * length (symbol_bytes s)
symbol_len (symbol.Character c) =
    by_letter (λ x text. length text + extra (is_high (symbol.Character x)) ≤ 4 * length (encode_utf8 x)) c
    (λ letter x lt m h. let n : ltb 0x7F x ≡ false = low x lt in rw n (omega (arith, some_bytes x)))
    (λ e f. shown c)
  where
    low : (x : ℕ) → x < 0x80 → ltb 0x7F x ≡ false
    low x lt = grind (arith, nat_tests)

    shown : (x : ℕ) → length (shown_or_octal x) + extra (is_high (symbol.Character x)) ≤ 4 * length (encode_utf8 x)
    shown x = elim (cases_Bool (stays_on_line x)) [
      | inl e ↦ rw e (omega (arith, some_bytes x, at_most (ltb 0x7F x && true)))
      | inr e ↦ (let n : is_high (symbol.Character x) ≡ false = and_none (ltb 0x7F x) (stays_on_line x) e in rw (n, e) (omega (arith, octals_len (encode_utf8 x))))
    ]
symbol_len (symbol.Unit u) = omega (arith, unit_len (unit_number u))

after_len : (high : Bool) (s : Symbol) → length (text_after high s) ≤ length (symbol_text s) + extra high
after_len true s = elim (cases_Bool (is_escape s)) [ inl e ↦ rw e (omega arith) | inr e ↦ rw e (omega arith) ]
after_len false s = omega arith

symbols_len : (high : Bool) (symbols : List Symbol) → length (dollar_text high symbols) ≤ 4 * length (flat_map symbol_bytes symbols) + extra high
symbols_len high [] = omega arith
symbols_len high (s ∷ symbols) =
    omega (arith, after_len high s, symbol_len s, symbols_len (is_high s) symbols, length-append (text_after high s) (dollar_text (is_high s) symbols), length-append (symbol_bytes s) (flat_map symbol_bytes symbols))

pub own_symbols : (name : List ℕ) → AreSymbols itself name (symbols_of itself name)
own_symbols name = record { chunks = chunks_of name; are_chunks = (some_chunks name).1; are = refl }

pub own_bytes : (name : List ℕ) → All IsByte name → flat_map symbol_bytes (symbols_of itself name) ≡ name
own_bytes name w = symbols_joined itself (All IsByte) unix_parts.encoded unix_laws.cut_prefix unix_laws.cut_suffix name w (symbols_of itself name) (own_symbols name)

pub all_len : (name : List ℕ) → All IsByte name → length (dollar_text false (symbols_of itself name)) ≤ 4 * length name
all_len name w = omega (arith, symbols_len false (symbols_of itself name), ap length (own_bytes name w))

-- the symbols of a name in one way or another
pub dollar_word_len : (name text : List ℕ) → All IsByte name → IsDollarWord name text → length text ≤ 4 * length name + 3
dollar_word_len name text w is =
    let joined = symbols_joined itself (All IsByte) unix_parts.encoded unix_laws.cut_prefix unix_laws.cut_suffix name w is.symbols is.are_symbols in
    omega (arith, symbols_len false is.symbols, ap length joined, ap length is.text_is, length-append (dollar_text false is.symbols) (single_quote ∷ []))

pub dollar_more : (high : Bool) (left symbols : List Symbol) (s : Symbol) → left ≡ s ∷ symbols → dollar_text high left ++ single_quote ∷ [] ≡ text_after high s ++ (dollar_text (is_high s) symbols ++ single_quote ∷ [])
dollar_more high left symbols s e = ap (λ x. dollar_text high x ++ single_quote ∷ []) e ∙ append_assoc (text_after high s) (dollar_text (is_high s) symbols) (single_quote ∷ [])

-- a word in any form is at most this long
pub form_len : (form : Form) (name : List ℕ) → All IsByte name → length (form_text form name) ≤ 4 * length name + 3
form_len Bare name w = omega arith
form_len Single name w = single_len name
form_len Dollar name w = omega (arith, all_len name w, length-append (dollar_text false (symbols_of itself name)) (single_quote ∷ []))
