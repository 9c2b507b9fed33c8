-- Words on one line are texts that stay on it, and each is that of one name.
use Rattle.std.proofs.Common.{◌≡◌, ℕ, zero, suc, ◌+◌, ◌*◌, ◌/◌, ◌%◌, ◌<◌, ◌≤◌, Bool, true, false, ◌&&◌, eqb, List, [], ◌∷◌, ◌++◌, length, map, refl, sym, ap, ◌∙◌, subst, arith, append_assoc, append-nil, inl, inr, ◌⊎◌}
use Rattle.std.specs.Char.{IsScalar, encode_utf8}
use Rattle.std.specs.List.{All, AllByRecursion, flat_map}
use Rattle.std.specs.Str.{IsAscii, IsUtf8, is_utf8, all_scalars, chars, encode_utf8_all}
use Rattle.std.proofs.lemmas.Bool.{and_parts, cases_Bool, eqb-true, ne_eqb, true≢false}
use Rattle.std.proofs.lemmas.Grind.{flat_map-append}
use Rattle.std.proofs.lemmas.List.Elements.{All-from_recursion, recursion_from_All}
use Rattle.std.proofs.lemmas.Str.{IsUtf8-nil, IsUtf8-append, IsUtf8-encode, IsUtf8-from_ascii, IsUtf8-from_is_utf8, is_utf8-from_IsUtf8, chars-nil, chars-append, chars-IsAscii, chars_from_encodes, chars_past_char, encode_ascii}
use Rattle.wtf8_core.specs.Byte.{IsByte}
use Rattle.wtf8_core.specs.Chunks.{Chunk}
use Rattle.wtf8_core.proofs.lemmas.vectors.ComputedTests.{all_below, each_below}
use Rattle.platform_str.specs.PlatformWords.{itself}
use Rattle.platform_str.specs.platforms.Unix.{unix_laws}
use Rattle.os_str_ext.specs.Chunks.{IsChunkOf}
use Rattle.os_str_ext.specs.Parts.{unit_number}
use Rattle.os_str_ext.specs.Symbols.{unit_symbol, chunks_symbols}
use Rattle.os_str_ext.specs.declared.symbols.Symbol.{Symbol}
use Rattle.os_str_ext.specs.declared.symbols.Symbol.TheVariants as symbol
use Rattle.os_str_ext.proofs.lemmas.EachChunk.{are_chunks_of}
use Rattle.os_quote.specs.Shown.{stays_on_line}
use Rattle.os_command_line.specs.declared.shell.language.Language.{Language}
use Rattle.os_command_line.specs.Shell.{single_quote, backslash, dollar, newline, IsTextOf, language}
use Rattle.os_command_line.specs.ShellWriting.{AreBytes, HasNoNul, is_plain_name, single_byte, single_text, single_quoted, quoted_word, letter_for, octal_text, shown_or_octal, character_text, symbol_text, is_escape, is_high, text_after, dollar_text, IsDollarWord, IsLineText, IsLineWord}
use Rattle.os_command_line.proofs.lemmas.CharacterForms.{text_form, each_of}
use Rattle.os_command_line.proofs.lemmas.Lists.{all_joined}
use Rattle.os_command_line.proofs.lemmas.ShellDollar.{dollar_is}
use Rattle.os_command_line.proofs.lemmas.ShellRoundTrip.{word_is_text, one_word}
use Rattle.os_command_line.proofs.lemmas.ShellWritten.{by_letter, on_one_line, single_plain, single_len, dollar_word_len}

-- ---- texts on one line, one after the other

abbrev IsStaying : ℕ → Type 0
IsStaying c = stays_on_line c ≡ true

both : (a b : List ℕ) → IsLineText a → IsLineText b → IsLineText (a ++ b)
both a b p q = (IsUtf8-append a b p.0 q.0, subst (AllByRecursion IsStaying) (sym (chars-append a b p.0)) (all_joined IsStaying (chars a) (chars b) p.1 q.1))

no_text : IsLineText []
no_text = (IsUtf8-nil, subst (AllByRecursion IsStaying) (sym chars-nil) tt)

-- ---- ASCII

abbrev pub IsShown : ℕ → Type 0
IsShown b = (b < 0x80) × (stays_on_line b ≡ true)

are_low : (bs : List ℕ) → AllByRecursion IsShown bs → IsAscii bs
are_low [] h i = omega arith
are_low (b ∷ bs) h zero = h.0.0
are_low (b ∷ bs) h (suc i) = are_low bs h.1 i

are_staying : (bs : List ℕ) → AllByRecursion IsShown bs → AllByRecursion IsStaying bs
are_staying [] h = tt
are_staying (b ∷ bs) h = (h.0.1, are_staying bs h.1)

pub ascii : (bs : List ℕ) → AllByRecursion IsShown bs → IsLineText bs
ascii bs h = let low = are_low bs h in (IsUtf8-from_ascii bs low, subst (AllByRecursion IsStaying) (sym (chars-IsAscii bs low)) (are_staying bs h))

digits_stay : all_below (λ k. stays_on_line (0x30 + k)) 8 ≡ true
digits_stay = refl

digit : (n : ℕ) → IsShown (0x30 + n % 8)
digit n = (omega arith, each_below (λ k. stays_on_line (0x30 + k)) 8 (n % 8) digits_stay (omega arith))

slash : IsShown backslash
slash = (omega arith, refl)

mark : IsShown single_quote
mark = (omega arith, refl)

octal : (b : ℕ) → IsLineText (octal_text b)
octal b = ascii (octal_text b) (slash, (digit (b / 64), (digit (b / 8), (digit b, tt))))

octals : (bytes : List ℕ) → IsLineText (flat_map octal_text bytes)
octals [] = no_text
octals (b ∷ bytes) = both (octal_text b) (flat_map octal_text bytes) (octal b) (octals bytes)

-- ---- characters

one_character : (c : ℕ) → IsScalar c → stays_on_line c ≡ true → IsLineText (encode_utf8 c)
one_character c s e =
    let u = IsUtf8-encode c s in
    let one : chars (encode_utf8 c) ≡ c ∷ [] = chars_past_char (encode_utf8 c) [] c u (sym (append-nil (encode_utf8 c))) ∙ ap (λ z. c ∷ z) chars-nil in
    (u, subst (AllByRecursion IsStaying) (sym one) (e, tt))

abbrev IsSingleOnLine : ℕ → Type 0
IsSingleOnLine c = IsLineText (flat_map (single_byte false) (encode_utf8 c))

single_mark : IsSingleOnLine single_quote
single_mark = subst (λ z. IsLineText (flat_map (single_byte false) z)) (sym (encode_ascii single_quote (omega arith))) (ascii (single_quote ∷ backslash ∷ single_quote ∷ single_quote ∷ []) (mark, (slash, (mark, (mark, tt)))))

single_character : (c : ℕ) → IsScalar c → stays_on_line c ≡ true → IsSingleOnLine c
single_character c s e = elim (cases_Bool (eqb c single_quote)) [
  | inl q ↦ subst IsSingleOnLine (sym (eqb-true c single_quote q)) single_mark
  | inr q ↦ subst IsLineText (sym (single_plain (encode_utf8 c) (each_of (λ b. eqb b single_quote ≡ false) (λ b h. ne_eqb b single_quote (λ f. omega (arith, f, h))) encode_utf8 text_form c q))) (one_character c s e)
]

single_characters : (cs : List ℕ) → all_scalars cs ≡ true → AllByRecursion IsStaying cs → IsLineText (flat_map (single_byte false) (encode_utf8_all cs))
single_characters [] s e = no_text
single_characters (c ∷ cs) s e =
    let p = and_parts _ (all_scalars cs) s in
    subst IsLineText (sym (flat_map-append (single_byte false) (encode_utf8 c) (encode_utf8_all cs))) (both (flat_map (single_byte false) (encode_utf8 c)) (flat_map (single_byte false) (encode_utf8_all cs)) (single_character c p.0 e.0) (single_characters cs p.1 e.1))

-- no newline is in what stays on the line
no_newline : (c : ℕ) → stays_on_line c ≡ true → AllByRecursion (λ b. eqb b newline ≡ false) (encode_utf8 c)
no_newline c e = elim (cases_Bool (eqb c newline)) [
  | inl q ↦ absurd (true≢false (sym e ∙ ap stays_on_line (eqb-true c newline q)))
  | inr q ↦ each_of (λ b. eqb b newline ≡ false) (λ b h. ne_eqb b newline (λ f. omega (arith, f, h))) encode_utf8 text_form c q
]

no_newlines : (cs : List ℕ) → AllByRecursion IsStaying cs → AllByRecursion (λ b. eqb b newline ≡ false) (encode_utf8_all cs)
no_newlines [] e = tt
no_newlines (c ∷ cs) e = all_joined (λ b. eqb b newline ≡ false) (encode_utf8 c) (encode_utf8_all cs) (no_newline c e.0) (no_newlines cs e.1)

single_on_line : (name : List ℕ) → IsLineText name → IsLineText (single_quoted name)
single_on_line name t =
    let u = t.0 in
    let staying = subst (AllByRecursion IsStaying) (sym (chars_from_encodes u.0 name u u.1.1)) t.1 in
    let lines = on_one_line name (subst (AllByRecursion (λ b. eqb b newline ≡ false)) u.1.1 (no_newlines u.0 staying)) in
    let inner = subst IsLineText (sym lines) (subst (λ z. IsLineText (flat_map (single_byte false) z)) u.1.1 (single_characters u.0 u.1.0 staying)) in
    let quote = ascii (single_quote ∷ []) (mark, tt) in
    both (single_quote ∷ []) (single_text false name ++ single_quote ∷ []) quote (both (single_text false name) (single_quote ∷ []) inner quote)

word_on_line : (name : List ℕ) → IsLineText name → IsLineText (quoted_word name)
word_on_line name t = elim (cases_Bool (is_plain_name name)) [
  | inl p ↦ subst IsLineText (sym (as_it_is p)) t
  | inr p ↦ subst IsLineText (sym (in_quotes p)) (single_on_line name t)
]
  where
    as_it_is : is_plain_name name ≡ true → quoted_word name ≡ name
    as_it_is p = rw p refl

    in_quotes : is_plain_name name ≡ false → quoted_word name ≡ single_quoted name
    in_quotes p = rw p refl

-- ---- dollar-single-quotes

shown : (c : ℕ) → IsScalar c → IsLineText (shown_or_octal c)
shown c s = elim (cases_Bool (stays_on_line c)) [
  | inl e ↦ subst IsLineText (sym (as_it_is e)) (one_character c s e)
  | inr e ↦ subst IsLineText (sym (by_bytes e)) (octals (encode_utf8 c))
]
  where
    as_it_is : stays_on_line c ≡ true → shown_or_octal c ≡ encode_utf8 c
    as_it_is e = rw e refl

    by_bytes : stays_on_line c ≡ false → shown_or_octal c ≡ flat_map octal_text (encode_utf8 c)
    by_bytes e = rw e refl

letter_text : (letter : ℕ) → IsShown letter → IsLineText (backslash ∷ letter ∷ [])
letter_text letter h = ascii (backslash ∷ letter ∷ []) (slash, (h, tt))

character : (c : ℕ) → IsScalar c → IsLineText (character_text c (letter_for c))
character c s = by_letter (λ x text. IsLineText text) c (λ letter x lt m h. letter_text letter h) (λ _ _. shown c s)

abbrev IsScalarSymbol : Symbol → Type 0
IsScalarSymbol (symbol.Character c) = IsScalar c
IsScalarSymbol (symbol.Unit u) = Unit {0}

symbol_on_line : (s : Symbol) → IsScalarSymbol s → IsLineText (symbol_text s)
symbol_on_line (symbol.Character c) s = character c s
symbol_on_line (symbol.Unit u) s = octal (unit_number u)

after_on_line : (high : Bool) (s : Symbol) → IsScalarSymbol s → IsLineText (text_after high s)
after_on_line high s h = elim (cases_Bool (high && is_escape s)) [
  | inl e ↦ subst IsLineText (sym (again e)) (both (single_quote ∷ dollar ∷ single_quote ∷ []) (symbol_text s) (ascii (single_quote ∷ dollar ∷ single_quote ∷ []) (mark, ((omega arith, refl), (mark, tt)))) (symbol_on_line s h))
  | inr e ↦ subst IsLineText (sym (at_once e)) (symbol_on_line s h)
]
  where
    again : high && is_escape s ≡ true → text_after high s ≡ single_quote ∷ dollar ∷ single_quote ∷ symbol_text s
    again e = rw e refl

    at_once : high && is_escape s ≡ false → text_after high s ≡ symbol_text s
    at_once e = rw e refl

symbols_on_line : (high : Bool) (symbols : List Symbol) → AllByRecursion IsScalarSymbol symbols → IsLineText (dollar_text high symbols)
symbols_on_line high [] h = no_text
symbols_on_line high (s ∷ symbols) h = both (text_after high s) (dollar_text (is_high s) symbols) (after_on_line high s h.0) (symbols_on_line (is_high s) symbols h.1)

units_scalar : (bytes : List ℕ) (more : List Symbol) → AllByRecursion IsScalarSymbol more → AllByRecursion IsScalarSymbol (map unit_symbol bytes ++ more)
units_scalar [] more m = m
units_scalar (b ∷ bytes) more m = (tt, units_scalar bytes more m)

characters_scalar : (cs : List ℕ) (more : List Symbol) → all_scalars cs ≡ true → AllByRecursion IsScalarSymbol more → AllByRecursion IsScalarSymbol (map symbol.Character cs ++ more)
characters_scalar [] more s m = m
characters_scalar (c ∷ cs) more s m = let p = and_parts _ (all_scalars cs) s in (p.0, characters_scalar cs more p.1 m)

chunks_scalar : (chunks : List Chunk) → AllByRecursion (λ (c : Chunk). IsUtf8 c.1) chunks → AllByRecursion IsScalarSymbol (chunks_symbols itself chunks)
chunks_scalar [] h = tt
chunks_scalar (c ∷ chunks) h =
    let u = h.0 in
    let scalars : all_scalars (chars c.1) ≡ true = subst (λ z. all_scalars z ≡ true) (chars_from_encodes u.0 c.1 u u.1.1) u.1.0 in
    subst (AllByRecursion IsScalarSymbol) (sym (append_assoc (map unit_symbol (itself c.0)) (map symbol.Character (chars c.1)) (chunks_symbols itself chunks)))
    (units_scalar c.0 _ (characters_scalar (chars c.1) _ scalars (chunks_scalar chunks h.1)))

dollar_on_line : (name text : List ℕ) → All IsByte name → IsDollarWord name text → IsLineText text
dollar_on_line name text w is =
    let chunks = is.are_symbols.chunks in
    let of = are_chunks_of (All IsByte) unix_laws.cut_prefix unix_laws.cut_suffix name chunks w is.are_symbols.are_chunks in
    let texts : AllByRecursion (λ (c : Chunk). IsUtf8 c.1) chunks = texts_of chunks of in
    let inner = symbols_on_line false is.symbols (subst (AllByRecursion IsScalarSymbol) (sym is.are_symbols.are) (chunks_scalar chunks texts)) in
    let quote = ascii (single_quote ∷ []) (mark, tt) in
    let opening = ascii (dollar ∷ single_quote ∷ []) ((omega arith, refl), (mark, tt)) in
    subst IsLineText (sym is.text_is) (both (dollar ∷ single_quote ∷ []) (dollar_text false is.symbols ++ single_quote ∷ []) opening (both (dollar_text false is.symbols) (single_quote ∷ []) inner quote))
  where
    texts_of : (chunks : List Chunk) → AllByRecursion (IsChunkOf (All IsByte)) chunks → AllByRecursion (λ (c : Chunk). IsUtf8 c.1) chunks
    texts_of [] h = tt
    texts_of (c ∷ chunks) h = (h.0.text, texts_of chunks h.1)

-- ---- whether a name stays on one line

all_stay : (cs : List ℕ) → AllByRecursion IsStaying cs ⊎ (AllByRecursion IsStaying cs → ⊥)
all_stay [] = inl tt
all_stay (c ∷ cs) = elim (cases_Bool (stays_on_line c)) [
  | inl e ↦ elim (all_stay cs) [ inl h ↦ inl (e, h) | inr n ↦ inr (λ h. n h.1) ]
  | inr e ↦ inr (λ h. true≢false (sym h.0 ∙ e))
]

pub line_cases : (name : List ℕ) → IsLineText name ⊎ (IsLineText name → ⊥)
line_cases name = elim (cases_Bool (is_utf8 name)) [
  | inl e ↦ elim (all_stay (chars name)) [ inl h ↦ inl (IsUtf8-from_is_utf8 name e, h) | inr n ↦ inr (λ t. n t.1) ]
  | inr e ↦ inr (λ t. true≢false (sym (is_utf8-from_IsUtf8 name t.0) ∙ e))
]

pub line_word_stays : (name text : List ℕ) → AreBytes name → IsLineWord name text → IsLineText text
line_word_stays name text w is = elim (line_cases name) [
  | inl t ↦ subst IsLineText (sym (is.shown t)) (word_on_line name t)
  | inr n ↦ dollar_on_line name text (All-from_recursion (λ b. b < 0x100) name w) (is.hidden n)
]

-- how long it is
word_len : (name : List ℕ) → length (quoted_word name) ≤ 4 * length name + 3
word_len name = elim (cases_Bool (is_plain_name name)) [ inl p ↦ rw p (omega arith) | inr p ↦ rw p (single_len name) ]

pub line_word_len : (name text : List ℕ) → All IsByte name → IsLineWord name text → length text ≤ 4 * length name + 3
line_word_len name text w is = elim (line_cases name) [
  | inl t ↦ omega (arith, ap length (is.shown t), word_len name)
  | inr n ↦ dollar_word_len name text w (is.hidden n)
]

line_word_is : (l : Language) (name text : List ℕ) → l.dollar_quotes ≡ true → AreBytes name → HasNoNul name → IsLineWord name text → IsTextOf l text name
line_word_is l name text d w n is = elim (line_cases name) [
  | inl t ↦ subst (λ z. IsTextOf l z name) (sym (is.shown t)) (word_is_text l name w)
  | inr h ↦ dollar_is l name text d (All-from_recursion (λ b. b < 0x100) name w) n (is.hidden h)
]

-- a word on one line is that of one name
pub one_line_name : (text a b : List ℕ) → AreBytes a → HasNoNul a → AreBytes b → HasNoNul b → IsLineWord a text → IsLineWord b text → a ≡ b
one_line_name text a b wa na wb nb x y = let l = language true true in one_word l text a b (line_word_is l a text refl wa na x) (line_word_is l b text refl wb nb y)

-- ---- what is read of a name's words

pub word_reads : (l : Language) (name text : List ℕ) → All IsByte name → text ≡ quoted_word name → IsTextOf l text name
word_reads l name text w e = subst (λ z. IsTextOf l z name) (sym e) (word_is_text l name (recursion_from_All IsByte name w))

pub line_word_reads : (l : Language) (name text : List ℕ) → l.dollar_quotes ≡ true → All IsByte name → HasNoNul name → IsLineWord name text → IsTextOf l text name
line_word_reads l name text d w n is = line_word_is l name text d (recursion_from_All IsByte name w) n is

pub line_stays : (name text : List ℕ) → All IsByte name → IsLineWord name text → IsLineText text
line_stays name text w is = line_word_stays name text (recursion_from_All IsByte name w) is
