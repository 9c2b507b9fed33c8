-- The letters of a string are read as a reader's laws require.
use Rattle.std.proofs.Common.{◌≡◌, ℕ, ◌<◌, List, [], ◌∷◌, ◌++◌, map, length, take, drop, refl, sym, ap, ◌∙◌, subst, arith, length-append}
use Rattle.std.specs.List.{AllByRecursion, flat_map}
use Rattle.std.specs.Str.{IsUtf8, chars}
use Rattle.wtf8_core.specs.Boundary.{IsBoundary}
use Rattle.wtf8_core.specs.Chunks.{Chunk}
use Rattle.wtf8_core.specs.Covered.{HasNoCharacter}
use Rattle.wtf8_core.specs.OccurrenceLaws.{OccurrenceLaws}
use Rattle.wtf8_core.proofs.lemmas.chunks.OneList.{some_chunks}
use Rattle.os_str_ext.specs.Chunks.{chunks_of, IsChunkOf}
use Rattle.os_str_ext.specs.Symbols.{chunks_symbols, symbols_of, unit_symbol}
use Rattle.os_str_ext.specs.declared.symbols.Symbol.TheVariants.{Character}
use Rattle.std.proofs.Common.{Bool, true, false, if◌then◌else◌, nat_lt}
use Rattle.std.proofs.lemmas.List.{map-append}
use Rattle.std.proofs.lemmas.Str.Ascii.{IsAscii-from_all}
use Rattle.std.specs.Char.{IsScalar}
use Rattle.std.proofs.lemmas.List.Elements.{All-from_recursion}
use Rattle.std.proofs.lemmas.Grind.{flat_map-append}
use Rattle.std.proofs.lemmas.Str.{IsUtf8-from_ascii, encode_ascii, scalars-chars, length-encode, len_utf8_bounds}
use Rattle.wtf8_core.specs.PartUnits.{unit_bytes}
use Rattle.wtf8_core.specs.CodePoint.{encode as form}
use Rattle.wtf8_core.proofs.lemmas.forms.Shapes.{form_bounds}
use Rattle.os_str_ext.proofs.lemmas.SymbolSteps.{no_symbols}
use Rattle.wtf8_core.proofs.lemmas.characters.Seams.{scalars_are}
use Rattle.wtf8_core.proofs.lemmas.characters.AtIndices.{scalar_point}
use Rattle.wtf8_core.proofs.lemmas.occurrence.Indices.{no_units}
use Rattle.os_str_ext.specs.Parts.{unit_number}
use Rattle.os_str_ext.specs.Symbols.{chunk_symbols, symbol_bytes}
use Rattle.os_str_ext.specs.declared.symbols.Symbol.{Symbol}
use Rattle.os_str_ext.specs.declared.symbols.Symbol.TheVariants.{Unit as LoneUnit}
use Rattle.os_str_ext.proofs.lemmas.EachChunk.{are_chunks_of}
use Rattle.os_str_ext.proofs.lemmas.SymbolBytes.{symbols_joined}
use Rattle.wildcards.specs.Reading.{LetterLaws, IsFoundAt}
use Rattle.glob_patterns.specs.Letters.{symbol_letter, letters_of}
use Rattle.glob_patterns.specs.LetterCuts.{around_ascii}

-- a character is a code point
abbrev IsProper : Symbol → Type 0
IsProper (Character c) = c < 0x11_0000
IsProper (LoneUnit u) = Unit {0}

same_symbol : (x y : Symbol) → IsProper x → IsProper y → symbol_letter x ≡ symbol_letter y → x ≡ y
same_symbol (Character c) (Character d) p q e = ap Character e
same_symbol (Character c) (LoneUnit u) p q e = absurd (omega (arith, p, e))
same_symbol (LoneUnit u) (Character d) p q e = absurd (omega (arith, q, e))
same_symbol (LoneUnit u) (LoneUnit v) p q e =
    let same : unit_number u ≡ unit_number v = omega (arith, e) in
    ap (λ n. LoneUnit (record { number = n })) same

same_symbols : (xs ys : List Symbol) → AllByRecursion IsProper xs → AllByRecursion IsProper ys → map symbol_letter xs ≡ map symbol_letter ys → xs ≡ ys
same_symbols [] [] p q e = refl
same_symbols [] (y ∷ ys) p q e = let never : [] ≡ symbol_letter y ∷ map symbol_letter ys = e in absurd (cc)
same_symbols (x ∷ xs) [] p q e = let never : symbol_letter x ∷ map symbol_letter xs ≡ [] = e in absurd (cc)
same_symbols (x ∷ xs) (y ∷ ys) p q e =
    let first : symbol_letter x ≡ symbol_letter y = cc in
    let rest : map symbol_letter xs ≡ map symbol_letter ys = cc in
    ap (λ z. z ∷ xs) (same_symbol x y p.0 q.0 first) ∙ ap (λ z. y ∷ z) (same_symbols xs ys p.1 q.1 rest)

proper_units : (us : List ℕ) → AllByRecursion IsProper (map unit_symbol us)
proper_units [] = tt
proper_units (u ∷ us) = (tt, proper_units us)

proper_characters : (cs : List ℕ) → AllByRecursion (λ c. c < 0x11_0000) cs → AllByRecursion IsProper (map Character cs)
proper_characters [] h = tt
proper_characters (c ∷ cs) h = (h.0, proper_characters cs h.1)

all_append : (P : Symbol → Type 0) (xs ys : List Symbol) → AllByRecursion P xs → AllByRecursion P ys → AllByRecursion P (xs ++ ys)
all_append P [] ys h k = k
all_append P (x ∷ xs) ys h k = (h.0, all_append P xs ys h.1 k)

-- a list of letters is cut where that of symbols is
record CutAt (xs : List Symbol) (us : List ℕ) (b : ℕ) (vs : List ℕ) : Type 0 where
  before : List Symbol
  at : Symbol
  after : List Symbol
  joined : xs ≡ before ++ at ∷ after
  letters_before : map symbol_letter before ≡ us
  letter : symbol_letter at ≡ b
  letters_after : map symbol_letter after ≡ vs

cut_letters : (xs : List Symbol) (us : List ℕ) (b : ℕ) (vs : List ℕ) → map symbol_letter xs ≡ us ++ b ∷ vs → CutAt xs us b vs
cut_letters [] [] b vs e = let never : [] ≡ b ∷ vs = e in absurd (cc)
cut_letters [] (u ∷ us) b vs e = let never : [] ≡ u ∷ (us ++ b ∷ vs) = e in absurd (cc)
cut_letters (x ∷ xs) [] b vs e =
    let first : symbol_letter x ≡ b = cc in
    let rest : map symbol_letter xs ≡ vs = cc in
    record { before = []; at = x; after = xs; joined = refl; letters_before = refl; letter = first; letters_after = rest }
cut_letters (x ∷ xs) (u ∷ us) b vs e =
    let first : symbol_letter x ≡ u = cc in
    let rest : map symbol_letter xs ≡ us ++ b ∷ vs = cc in
    let h = cut_letters xs us b vs rest in
    record { before = x ∷ h.before; at = h.at; after = h.after; joined = ap (λ z. x ∷ z) h.joined; letters_before = ap (λ z. z ∷ map symbol_letter h.before) first ∙ ap (λ z. u ∷ z) h.letters_before; letter = h.letter; letters_after = h.letters_after }

proper_at : (xs : List Symbol) (y : Symbol) (ys : List Symbol) → AllByRecursion IsProper (xs ++ y ∷ ys) → IsProper y
proper_at [] y ys h = h.0
proper_at (x ∷ xs) y ys h = proper_at xs y ys h.1

some_bytes : (x : Symbol) → 0 < length (symbol_bytes x)
some_bytes (Character c) = let b = len_utf8_bounds c in omega (arith, length-encode c, b.0)
some_bytes (LoneUnit u) = by_size (nat_lt (unit_number u) 0x100)
  where
    by_size : (v : Bool) → 0 < length (if v then unit_number u ∷ [] else form (unit_number u))
    by_size true = omega arith
    by_size false = let b = form_bounds (unit_number u) in omega (arith, b.0)

ascii_text : (s : List ℕ) → AllByRecursion (λ b. b < 0x80) s → IsUtf8 s
ascii_text s h = IsUtf8-from_ascii s (IsAscii-from_all s (All-from_recursion (λ b. b < 0x80) s h))

-- a number of bytes cuts a list of symbols at one position only
one_cut : (xs ys us vs : List Symbol) (z : Symbol) → xs ++ z ∷ us ≡ ys ++ z ∷ vs → length (flat_map symbol_bytes xs) ≡ length (flat_map symbol_bytes ys) → (xs ≡ ys) × (us ≡ vs)
one_cut [] [] us vs z e l = let rest : us ≡ vs = cc in (refl, rest)
one_cut [] (y ∷ ys) us vs z e l = absurd (omega (arith, l, length-append (symbol_bytes y) (flat_map symbol_bytes ys), some_bytes y))
one_cut (x ∷ xs) [] us vs z e l = absurd (omega (arith, l, length-append (symbol_bytes x) (flat_map symbol_bytes xs), some_bytes x))
one_cut (x ∷ xs) (y ∷ ys) us vs z e l =
    let first : x ≡ y = cc in
    let rest : xs ++ z ∷ us ≡ ys ++ z ∷ vs = cc in
    let h = one_cut xs ys us vs z rest (omega (arith, l, ap (λ s. length (symbol_bytes s)) first, length-append (symbol_bytes x) (flat_map symbol_bytes xs), length-append (symbol_bytes y) (flat_map symbol_bytes ys))) in
    (ap (λ s. s ∷ xs) first ∙ ap (λ s. y ∷ s) h.0, h.1)

module _ (well_formed : List ℕ → Type 0) (units : List ℕ → List ℕ) (occurrence : OccurrenceLaws well_formed units)
    (encoded : (b : List ℕ) → well_formed b → HasNoCharacter b → b ≡ flat_map unit_bytes (units b))
    (cut_prefix : (b : List ℕ) (i : ℕ) → well_formed b → IsBoundary b i → well_formed (take i b))
    (cut_suffix : (b : List ℕ) (i : ℕ) → well_formed b → IsBoundary b i → well_formed (drop i b)) where
  proper_chunks : (cs : List Chunk) → AllByRecursion (IsChunkOf well_formed) cs → AllByRecursion IsProper (chunks_symbols units cs)
  proper_chunks [] h = tt
  proper_chunks (c ∷ cs) h =
      all_append IsProper (chunk_symbols units c) (chunks_symbols units cs)
      (all_append IsProper (map unit_symbol (units c.0)) (map Character (chars c.1)) (proper_units (units c.0)) (proper_characters (chars c.1) (points (chars c.1) (scalars_are (chars c.1) (scalars-chars c.1 h.0.text)))))
      (proper_chunks cs h.1)
    where
      points : (cs : List ℕ) → AllByRecursion IsScalar cs → AllByRecursion (λ c. c < 0x11_0000) cs
      points [] k = tt
      points (d ∷ cs) k = (omega (arith, scalar_point d k.0), points cs k.1)

  proper : (s : List ℕ) → well_formed s → AllByRecursion IsProper (symbols_of units s)
  proper s f = proper_chunks (chunks_of s) (are_chunks_of well_formed cut_prefix cut_suffix s (chunks_of s) f (some_chunks s).1)

  spelled : (s : List ℕ) → well_formed s → flat_map symbol_bytes (symbols_of units s) ≡ s
  spelled s f = symbols_joined units well_formed encoded cut_prefix cut_suffix s f (symbols_of units s) (record { chunks = chunks_of s; are_chunks = (some_chunks s).1; are = refl })

  around : (s t : List ℕ) (b : ℕ) → b < 0x80 → symbols_of units (s ++ b ∷ t) ≡ symbols_of units s ++ Character b ∷ symbols_of units t
  around s t b low = around_ascii units (no_units well_formed units occurrence) (length s) s t b (omega arith) low

  formed_before : (s t : List ℕ) (b : ℕ) → b < 0x80 → well_formed (s ++ b ∷ t) → well_formed s
  formed_before s t b low f = occurrence.before_text (b ∷ []) s t (ascii_text (b ∷ []) (low, tt)) (omega arith) f

  formed_from : (s t : List ℕ) (b : ℕ) → b < 0x80 → well_formed (s ++ b ∷ t) → well_formed (b ∷ t)
  formed_from s t b low f = (occurrence.prefixes s (b ∷ t) (formed_before s t b low f) f).0

  formed_around : (s t : List ℕ) (b : ℕ) → b < 0x80 → well_formed (s ++ b ∷ t) → well_formed s × well_formed t
  formed_around s t b low f = (formed_before s t b low f, (occurrence.prefixes (b ∷ []) t (occurrence.texts (b ∷ []) (ascii_text (b ∷ []) (low, tt))) (formed_from s t b low f)).0)

  symbols_ascii : (s : List ℕ) → AllByRecursion (λ b. b < 0x80) s → symbols_of units s ≡ map Character s
  symbols_ascii [] h = let nothing : symbols_of units [] ≡ [] = no_symbols units [] refl in nothing
  symbols_ascii (b ∷ s) h =
      let nothing : symbols_of units [] ≡ [] = no_symbols units [] refl in
      around [] s b h.0 ∙ ap (λ z. z ++ Character b ∷ symbols_of units s) nothing ∙ ap (λ z. Character b ∷ z) (symbols_ascii s h.1)

  itself : (s : List ℕ) → map symbol_letter (map Character s) ≡ s
  itself [] = refl
  itself (b ∷ s) = ap (λ z. b ∷ z) (itself s)

  pub reading_laws : LetterLaws well_formed (letters_of units)
  reading_laws = record {
    ascii = λ s h. (occurrence.texts s (ascii_text s h), ap (map symbol_letter) (symbols_ascii s h) ∙ itself s);
    once = λ s t f g e. sym (spelled s f) ∙ ap (flat_map symbol_bytes) (same_symbols (symbols_of units s) (symbols_of units t) (proper s f) (proper t g) e) ∙ spelled t g;
    cut = λ s t b low f. let both = formed_around s t b low f in
        (both.0, (both.1, ap (map symbol_letter) (around s t b low) ∙ map-append symbol_letter (symbols_of units s) (Character b ∷ symbols_of units t)));
    from = formed_from;
    found = found_at;
  }
    where
      found_at : (s us vs : List ℕ) (b : ℕ) → b < 0x80 → well_formed s → letters_of units s ≡ us ++ b ∷ vs → IsFoundAt (letters_of units) s b us vs
      found_at s us vs b low f e =
          let h = cut_letters (symbols_of units s) us b vs e in
          let at : h.at ≡ Character b = same_symbol h.at (Character b) (proper_at h.before h.at h.after (subst (AllByRecursion IsProper) h.joined (proper s f))) (omega (arith, low)) h.letter in
          let xs = h.before in
          let ys = h.after in
          let p = flat_map symbol_bytes xs in
          let q = flat_map symbol_bytes ys in
          let list : symbols_of units s ≡ xs ++ Character b ∷ ys = h.joined ∙ ap (λ z. xs ++ z ∷ ys) at in
          let bytes : s ≡ p ++ b ∷ q = sym (spelled s f) ∙ ap (flat_map symbol_bytes) list ∙ flat_map-append symbol_bytes xs (Character b ∷ ys) ∙ ap (λ z. p ++ (z ++ q)) (encode_ascii b low) in
          let formed = formed_around p q b low (subst well_formed bytes f) in
          let twice : xs ++ Character b ∷ ys ≡ symbols_of units p ++ Character b ∷ symbols_of units q = sym list ∙ ap (symbols_of units) bytes ∙ around p q b low in
          let same = one_cut xs (symbols_of units p) ys (symbols_of units q) (Character b) twice (ap length (sym (spelled p formed.0))) in
          record {
            prefix = p;
            suffix = q;
            joined = bytes;
            letters_before = ap (map symbol_letter) (sym same.0) ∙ h.letters_before;
            letters_after = ap (map symbol_letter) (sym same.1) ∙ h.letters_after;
          }
