-- Escapes of strings that begin with a text or with a unit, by their symbols.
use Rattle.os_quote.proofs.Common.{text_escape, IsScalar, ◌≡◌, ⊎_elim, ℕ, ◌<◌, ◌≤◌, Bool, true, false, not, ◌||◌, true≢false, List, [], ◌∷◌, ◌++◌, map, length, take, drop, get_or, refl, sym, ap, ◌∙◌, subst, arith, take-append-drop, cases_lt, map-append, chars, scalar, all_scalars, encode_utf8, encode_utf8_all, scalars-chars, encodes-chars, and_parts, append_assoc, Chunk, chunks_of, encode, form_bounds, form_two, form_three, form_past, IsUtf8, Item, item_text, item_texts, unit_item, character_item, items_of, escape_of}
use Rattle.std.proofs.lemmas.{List.get_or_append_left, Simd.map-map}
use Rattle.std.specs.Str.{IsValidUpTo}
use Rattle.os_quote.specs.Start.{IsCutAfterText}
use Rattle.wtf8_core.specs.{Covered.StartsWithNoCharacter, OccurrenceLaws.OccurrenceLaws, Byte.IsContinuation, Boundary.IsBoundary}
use Rattle.wtf8_core.proofs.lemmas.{characters.AtIndices.begins_at, characters.FourBytes.past_ascii, characters.Overlaps.continued, characters.Overlaps.no_start}
use Rattle.platform_str.specs.Laws.{IsFirstUnit}
use Rattle.os_str_ext.specs.{Parts.unit_number, Symbols.unit_symbol, Symbols.symbols_of, Symbols.chunks_symbols, declared.symbols.Symbol.Symbol, declared.symbols.Symbol.TheVariants.Character}
use Rattle.os_str_ext.specs.declared.symbols.Symbol.TheVariants as symbol
use Rattle.os_str_ext.proofs.lemmas.{FirstChunk.no_character_after, SymbolSteps.symbols_by_character, UnitAtStart.symbols_from_unit}

two_or_more : (c : ℕ) → 0x80 ≤ c → 2 ≤ length (encode c)
two_or_more c h =
    ⊎_elim (λ l. omega (arith, ap length (form_two c h l)))
    (λ ge. ⊎_elim (λ l. omega (arith, ap length (form_three c ge l))) (λ past. omega (arith, ap length (form_past c past))) (cases_lt c 0x1_0000))
    (cases_lt c 0x800)

-- no whole character starts with two bytes of which the first continues one, or the second continues none
without_continuation : (s : List ℕ) → 0x80 ≤ get_or s 0 0 → ¬ (IsContinuation (get_or s 1 0)) → StartsWithNoCharacter s
without_continuation s high n j w =
    let c = w.char in
    let same : get_or s 0 0 ≡ get_or (encode c) 0 0 = ap (λ l. get_or l 0 0) (begins_at s 0 j w) ∙ get_or_append_left (encode c) w.occurs.after 0 0 (form_bounds c).0 in
    n (continued s 0 j 1 w (omega arith) (omega (arith, two_or_more c (past_ascii c (subst (λ x. 0x80 ≤ x) same high)), w.end)))

pub told_apart : (s : List ℕ) (first second : Bool) → 0x80 ≤ get_or s 0 0 → (first ≡ true → IsContinuation (get_or s 0 0)) → (IsContinuation (get_or s 1 0) → second ≡ true) → first || not second ≡ true → StartsWithNoCharacter s
told_apart s true second high f k told = λ j w. no_start s 0 j (f refl) w
told_apart s false false high f k told = without_continuation s high (λ r. true≢false (sym (k r)))
told_apart s false true high f k told = absurd (true≢false (sym told))

-- no whole character starts at a fault
pub fault_at_start : (s : List ℕ) (n : ℕ) → IsValidUpTo s n → n ≡ 0 → StartsWithNoCharacter s
fault_at_start s n valid zero = no_character_after s s 0 0 refl (subst (IsValidUpTo s) zero valid)

-- a text up to an index
pub cut_text : (s text rest : List ℕ) (n : ℕ) → 0 < n → length text ≡ n → IsUtf8 text → text ≡ take n s → rest ≡ drop n s → IsCutAfterText s text rest
cut_text s text rest n some size u text_is rest_is = record { some = omega (arith, some, size); is_text = u; joined = sym (take-append-drop n s) ∙ ap (λ t. t ++ drop n s) (sym text_is) ∙ ap (λ r. text ++ r) (sym rest_is) }

-- the items of a string are those of its symbols
module _ (shows : ℕ → Bool) (units : List ℕ → List ℕ) where
  abbrev symbol_item : Symbol → Item
  symbol_item (Character c) = character_item shows c
  symbol_item (symbol.Unit u) = unit_item (unit_number u)

  symbol_items : (cs : List Chunk) → map symbol_item (chunks_symbols units cs) ≡ items_of shows units cs
  symbol_items [] = refl
  symbol_items (c ∷ cs) =
      let us = map unit_symbol (units c.0) in
      let xs = map Character (chars c.1) in
      rw (map-append symbol_item (us ++ xs) (chunks_symbols units cs), map-append symbol_item us xs, map-map symbol_item unit_symbol (units c.0), map-map symbol_item Character (chars c.1), symbol_items cs) refl

  escape_by_symbols : (s : List ℕ) → escape_of shows units s ≡ item_texts (map symbol_item (symbols_of units s))
  escape_by_symbols s = ap item_texts (sym (symbol_items (chunks_of s)))

  -- the escape of a character, and of what follows it
  pub character_first : units [] ≡ [] → (c : ℕ) → IsScalar c → {whole : List ℕ} (rest : List ℕ) → whole ≡ encode_utf8 c ++ rest → escape_of shows units whole ≡ item_text (character_item shows c) ++ escape_of shows units rest
  character_first none c scalar {whole} rest e =
      escape_by_symbols whole
      ∙ ap (λ xs. item_texts (map symbol_item xs)) (symbols_by_character whole rest c scalar e units none)
      ∙ ap (λ x. item_text (character_item shows c) ++ x) (sym (escape_by_symbols rest))

  -- of characters
  characters_first : units [] ≡ [] → (cs rest : List ℕ) → all_scalars cs ≡ true → escape_of shows units (encode_utf8_all cs ++ rest) ≡ item_texts (map (character_item shows) cs) ++ escape_of shows units rest
  characters_first none [] rest s = refl
  characters_first none (c ∷ cs) rest s =
      let both = and_parts (scalar c) _ s in
      character_first none c both.0 (encode_utf8_all cs ++ rest) (append_assoc (encode_utf8 c) (encode_utf8_all cs) rest)
      ∙ ap (λ x. item_text (character_item shows c) ++ x) (characters_first none cs rest both.1)
      ∙ sym (append_assoc (item_text (character_item shows c)) (item_texts (map (character_item shows) cs)) (escape_of shows units rest))

  -- of a text
  pub text_and_rest : units [] ≡ [] → (text rest : List ℕ) → IsUtf8 text → escape_of shows units (text ++ rest) ≡ text_escape shows text ++ escape_of shows units rest
  text_and_rest none text rest u = ap (λ t. escape_of shows units (t ++ rest)) (sym (encodes-chars text u)) ∙ characters_first none (chars text) rest (scalars-chars text u)

-- the first unit's token, and the escape of what follows it
pub unit_first : {well_formed : List ℕ → Type 0} {units : List ℕ → List ℕ} → OccurrenceLaws well_formed units → (shows : ℕ → Bool) → ((b : List ℕ) (i : ℕ) → well_formed b → IsBoundary b i → well_formed (take i b)) → {bytes : List ℕ} {unit size : ℕ} → well_formed bytes → StartsWithNoCharacter bytes → IsFirstUnit well_formed units bytes unit size
    → escape_of shows units bytes ≡ item_text (unit_item unit) ++ escape_of shows units (drop size bytes)
unit_first {units = units} occurrence shows cut_prefix {bytes} {unit} {size} formed uncovered first =
    escape_by_symbols shows units bytes
    ∙ ap (λ xs. item_texts (map (symbol_item shows units) xs)) (symbols_from_unit occurrence cut_prefix formed uncovered first)
    ∙ ap (λ x. item_text (unit_item unit) ++ x) (sym (escape_by_symbols shows units (drop size bytes)))
