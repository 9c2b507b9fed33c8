-- What is written in dollar-single-quotes is read back.
use Rattle.std.proofs.Common.{◌≡◌, ℕ, ◌+◌, ◌/◌, ◌%◌, ◌<◌, ◌≤◌, Bool, true, false, ◌&&◌, eqb, List, [], ◌∷◌, ◌++◌, map, refl, sym, ap, ◌∙◌, subst, arith, append_assoc, append-nil, Some, inl, inr}
use Rattle.std.specs.Char.{encode_utf8}
use Rattle.std.specs.List.{All, AllByRecursion, flat_map}
use Rattle.std.specs.Str.{chars}
use Rattle.std.proofs.lemmas.Bool.{cases_Bool, ne_eqb, lt-ltb}
use Rattle.std.proofs.lemmas.List.Elements.{recursion_from_All}
use Rattle.std.proofs.lemmas.Str.{encode_ascii}
use Rattle.wtf8_core.specs.Byte.{IsByte}
use Rattle.wtf8_core.specs.Chunks.{Chunk, joined}
use Rattle.platform_str.specs.PlatformWords.{itself}
use Rattle.platform_str.specs.platforms.Unix.{unix_laws, unix_parts}
use Rattle.os_str_ext.specs.Parts.{unit_number}
use Rattle.os_str_ext.specs.Symbols.{symbol_bytes, unit_symbol, chunks_symbols}
use Rattle.os_str_ext.specs.declared.symbols.Symbol.{Symbol}
use Rattle.os_str_ext.specs.declared.symbols.Symbol.TheVariants as symbol
use Rattle.os_str_ext.proofs.lemmas.SymbolBytes.{symbols_joined}
use Rattle.os_quote.specs.Shown.{stays_on_line}
use Rattle.os_command_line.specs.declared.shell.language.Language.{Language}
use Rattle.os_command_line.specs.Shell.{single_quote, backslash, dollar, escape_meaning, Dollared, Ends, Reads, IsTextOf, Begins}
use Rattle.os_command_line.specs.Shell.IsOpening.{quote}
use Rattle.os_command_line.specs.Shell.Outcome.{Word}
use Rattle.os_command_line.specs.Shell.Dollared.{nothing, itself as plain, escape_of}
use Rattle.os_command_line.specs.Shell.Reads.{ends, dollared}
use Rattle.os_command_line.specs.ShellWriting.{HasNoNul, letter_for, octal_text, shown_or_octal, character_text, symbol_text, is_escape, is_high, dollar_text, IsDollarWord}
use Rattle.os_command_line.proofs.lemmas.ShellEachLine.{same}
use Rattle.os_command_line.proofs.lemmas.ShellRoundTrip.{begins_with}
use Rattle.os_command_line.proofs.lemmas.CharacterForms.{text_form, each_of}
use Rattle.os_command_line.proofs.lemmas.Lists.{both_parts}
use Rattle.os_command_line.proofs.lemmas.ShellOctal.{IsNameByte, octal_means}
use Rattle.os_command_line.proofs.lemmas.ShellWritten.{by_letter}

-- what comes before a text in quotes means this before what the text means
abbrev Leads : List ℕ → List ℕ → Type 0
Leads prefix meant = (text word : List ℕ) → Dollared text word → Dollared (prefix ++ text) (meant ++ word)

same_dollared : (a b x y : List ℕ) → a ≡ b → x ≡ y → Dollared a x → Dollared b y
same_dollared a b x y e f r = subst (λ z. Dollared z y) e (subst (Dollared a) f r)

led : (prefix meant : List ℕ) → Leads prefix meant → Dollared prefix meant
led prefix meant p = same_dollared _ _ _ _ (append-nil prefix) (append-nil meant) (p [] [] nothing)

leads_on : (prefix meant taken added : List ℕ) → Leads prefix meant → Leads taken added → Leads (prefix ++ taken) (meant ++ added)
leads_on prefix meant taken added p q text word r = same_dollared _ _ _ _ (sym (append_assoc prefix taken text)) (sym (append_assoc meant added word)) (p (taken ++ text) (added ++ word) (q text word r))

-- ---- octal digits

octals_lead : (bytes : List ℕ) → AllByRecursion IsNameByte bytes → Leads (flat_map octal_text bytes) bytes
octals_lead [] h text word r = r
octals_lead (b ∷ bytes) h text word r =
    escape_of ((0x30 + b / 64 % 8) ∷ (0x30 + b / 8 % 8) ∷ (0x30 + b % 8) ∷ []) b (flat_map octal_text bytes ++ text) (bytes ++ word) (octal_means b h.0) (octals_lead bytes h.1 text word r)

-- ---- characters

abbrev pub IsItself : ℕ → Type 0
IsItself b = (eqb b 0x27 ≡ false) × (eqb b 0x5C ≡ false)

itself_leads : (bytes : List ℕ) → AllByRecursion IsItself bytes → Leads bytes bytes
itself_leads [] h text word r = r
itself_leads (b ∷ bytes) h text word r = plain b (bytes ++ text) (bytes ++ word) h.0.0 h.0.1 (itself_leads bytes h.1 text word r)

pub past_itself : (b : ℕ) → 0x80 ≤ b → IsItself b
past_itself b h = (ne_eqb b 0x27 (λ e. omega (arith, e, h)), ne_eqb b 0x5C (λ e. omega (arith, e, h)))

letter_leads : (letter c : ℕ) → c < 0x80 → escape_meaning (letter ∷ []) ≡ Some c → Leads (backslash ∷ letter ∷ []) (encode_utf8 c)
letter_leads letter c lt m text word r = subst (λ z. Dollared (backslash ∷ letter ∷ text) (z ++ word)) (sym (encode_ascii c lt)) (escape_of (letter ∷ []) c text word m r)

shown_leads : (c : ℕ) → IsItself c → AllByRecursion IsNameByte (encode_utf8 c) → Leads (shown_or_octal c) (encode_utf8 c)
shown_leads c i h = elim (cases_Bool (stays_on_line c)) [
  | inl e ↦ subst (λ z. Leads z (encode_utf8 c)) (sym (as_it_is e)) (itself_leads (encode_utf8 c) (each_of IsItself past_itself encode_utf8 text_form c i))
  | inr e ↦ subst (λ z. Leads z (encode_utf8 c)) (sym (by_bytes e)) (octals_lead (encode_utf8 c) h)
]
  where
    as_it_is : stays_on_line c ≡ true → shown_or_octal c ≡ encode_utf8 c
    as_it_is e = rw e refl

    by_bytes : stays_on_line c ≡ false → shown_or_octal c ≡ flat_map octal_text (encode_utf8 c)
    by_bytes e = rw e refl

character_leads : (c : ℕ) → AllByRecursion IsNameByte (encode_utf8 c) → Leads (character_text c (letter_for c)) (encode_utf8 c)
character_leads c h = by_letter (λ x text. Leads text (encode_utf8 x)) c (λ letter x lt m _. letter_leads letter x lt m) (λ q s. shown_leads c (q, s) h)

-- ---- symbols

abbrev pub IsUnixSymbol : Symbol → Type 0
IsUnixSymbol (symbol.Character c) = Unit {0}
IsUnixSymbol (symbol.Unit u) = unit_number u < 0x100

symbol_leads : (s : Symbol) → IsUnixSymbol s → AllByRecursion IsNameByte (symbol_bytes s) → Leads (symbol_text s) (symbol_bytes s)
symbol_leads (symbol.Character c) u h = character_leads c h
symbol_leads (symbol.Unit u) lt h =
    let n = unit_number u in
    let one : symbol_bytes (symbol.Unit u) ≡ n ∷ [] = rw (lt-ltb n 0x100 lt) refl in
    let byte : IsNameByte n = (subst (AllByRecursion IsNameByte) one h).0 in
    λ text word r. subst (λ z. Dollared (octal_text n ++ text) (z ++ word)) (sym one) (escape_of ((0x30 + n / 64 % 8) ∷ (0x30 + n / 8 % 8) ∷ (0x30 + n % 8) ∷ []) n text word (octal_means n byte) r)

-- one symbol after the other, after what was written
symbols_read : (l : Language) (first high : Bool) (symbols : List Symbol) (done meant after : List ℕ) → l.dollar_quotes ≡ true → Leads done meant → AllByRecursion IsUnixSymbol symbols → AllByRecursion IsNameByte (flat_map symbol_bytes symbols) → Ends after
    → Reads l first (dollar ∷ single_quote ∷ (done ++ (dollar_text high symbols ++ single_quote ∷ after))) (Word (meant ++ flat_map symbol_bytes symbols) after)
symbols_read l first high [] done meant after d p u h e = dollared first (single_quote ∷ []) done meant after (Word [] after) d quote (led done meant p) (ends false after e)
symbols_read l first high (s ∷ symbols) done meant after d p u h e =
    let m = both_parts IsNameByte (symbol_bytes s) (flat_map symbol_bytes symbols) h in
    let own = symbol_leads s u.0 m.0 in
    let rest = dollar_text (is_high s) symbols ++ single_quote ∷ after in
    elim (cases_Bool (high && is_escape s)) [
      | inl x ↦
          let again = symbols_read l false (is_high s) symbols (symbol_text s) (symbol_bytes s) after d own u.1 m.1 e in
          let t : done ++ (dollar_text high (s ∷ symbols) ++ single_quote ∷ after) ≡ done ++ single_quote ∷ dollar ∷ single_quote ∷ (symbol_text s ++ rest) = rw x (ap (λ z. done ++ single_quote ∷ dollar ∷ single_quote ∷ z) (append_assoc (symbol_text s) (dollar_text (is_high s) symbols) (single_quote ∷ after))) in
          same (ap (λ z. dollar ∷ single_quote ∷ z) (sym t)) refl (dollared first (single_quote ∷ []) done meant (dollar ∷ single_quote ∷ (symbol_text s ++ rest)) (Word (symbol_bytes s ++ flat_map symbol_bytes symbols) after) d quote (led done meant p) again)
      | inr x ↦
          let more = symbols_read l first (is_high s) symbols (done ++ symbol_text s) (meant ++ symbol_bytes s) after d (leads_on done meant (symbol_text s) (symbol_bytes s) p own) u.1 m.1 e in
          let t : done ++ (dollar_text high (s ∷ symbols) ++ single_quote ∷ after) ≡ (done ++ symbol_text s) ++ rest = rw x (simp append_assoc) in
          same (ap (λ z. dollar ∷ single_quote ∷ z) (sym t)) (ap (λ z. Word z after) (append_assoc meant (symbol_bytes s) (flat_map symbol_bytes symbols))) more
    ]

units_unix : (bytes : List ℕ) (more : List Symbol) → AllByRecursion (λ b. b < 0x100) bytes → AllByRecursion IsUnixSymbol more → AllByRecursion IsUnixSymbol (map unit_symbol bytes ++ more)
units_unix [] more h m = m
units_unix (b ∷ bytes) more h m = (h.0, units_unix bytes more h.1 m)

characters_unix : (cs : List ℕ) (more : List Symbol) → AllByRecursion IsUnixSymbol more → AllByRecursion IsUnixSymbol (map symbol.Character cs ++ more)
characters_unix [] more m = m
characters_unix (c ∷ cs) more m = (tt, characters_unix cs more m)

chunks_unix : (chunks : List Chunk) → AllByRecursion (λ b. b < 0x100) (joined chunks) → AllByRecursion IsUnixSymbol (chunks_symbols itself chunks)
chunks_unix [] h = tt
chunks_unix (c ∷ chunks) h =
    let p = both_parts (λ b. b < 0x100) c.0 (c.1 ++ joined chunks) h in
    let q = both_parts (λ b. b < 0x100) c.1 (joined chunks) p.1 in
    subst (AllByRecursion IsUnixSymbol) (sym (append_assoc (map unit_symbol (itself c.0)) (map symbol.Character (chars c.1)) (chunks_symbols itself chunks)))
    (units_unix c.0 _ p.0 (characters_unix (chars c.1) _ (chunks_unix chunks q.1)))

pub name_bytes : (name : List ℕ) → AllByRecursion (λ b. b < 0x100) name → HasNoNul name → AllByRecursion IsNameByte name
name_bytes [] a n = tt
name_bytes (b ∷ name) a n = ((a.0, n.0), name_bytes name a.1 n.1)

-- the symbols of a name: their bytes are the name, and each that is no character is a byte
pub name_whole : (name text : List ℕ) → All IsByte name → (is : IsDollarWord name text) → flat_map symbol_bytes is.symbols ≡ name
name_whole name text w is = symbols_joined itself (All IsByte) unix_parts.encoded unix_laws.cut_prefix unix_laws.cut_suffix name w is.symbols is.are_symbols

pub name_unix : (name text : List ℕ) → All IsByte name → (is : IsDollarWord name text) → AllByRecursion IsUnixSymbol is.symbols
name_unix name text w is =
    let bytes = recursion_from_All IsByte name w in
    let chunks = is.are_symbols.chunks in
    subst (AllByRecursion IsUnixSymbol) (sym is.are_symbols.are) (chunks_unix chunks (subst (AllByRecursion (λ b. b < 0x100)) (sym is.are_symbols.are_chunks.joins) bytes))

-- a name in dollar-single-quotes is read as the name, where they are read
pub dollar_is : (l : Language) (name text : List ℕ) → l.dollar_quotes ≡ true → All IsByte name → HasNoNul name → IsDollarWord name text → IsTextOf l text name
dollar_is l name text d w n is after e =
    let body = dollar_text false is.symbols in
    let whole = name_whole name text w is in
    let read = symbols_read l true false is.symbols [] [] after d (λ text word r. r) (name_unix name text w is) (subst (AllByRecursion IsNameByte) (sym whole) (name_bytes name (recursion_from_All IsByte name w) n)) e in
    let start : text ++ after ≡ dollar ∷ single_quote ∷ (body ++ single_quote ∷ after) = ap (λ z. z ++ after) is.text_is ∙ ap (λ z. dollar ∷ single_quote ∷ z) (append_assoc body (single_quote ∷ []) after) in (
      subst Begins (sym start) (begins_with dollar (single_quote ∷ (body ++ single_quote ∷ after)) refl (λ f. omega (arith, f))),
      same (sym start) (ap (λ z. Word z after) whole) read,
    )
