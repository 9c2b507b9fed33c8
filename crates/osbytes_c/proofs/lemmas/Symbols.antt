-- The first symbol of bytes, by what they begin with.
use Rattle.std.proofs.Common.{◌≡◌, inl, ⊎_elim, ℕ, zero, suc, get_or, slice_index_or, ◌+◌, ◌-◌, ◌<◌, ◌≤◌, List, [], ◌∷◌, ◌++◌, length, take, drop, refl, sym, ap, ◌∙◌, subst, arith, length-append, length-drop, take-append-drop}
use Rattle.std.proofs.Math.Utf8.{low_scalar}
use Rattle.std.proofs.lemmas.Bool.{cases_lt}
use Rattle.std.proofs.lemmas.List.{length-take-le, take-take, take_at, drop_at, drop-drop, drop_all, drop_more}
use Rattle.std.proofs.lemmas.Str.{IsCharBoundary-from_take, IsUtf8-drop, IsUtf8-encode, encode_ascii, length-encode, len_utf8_bounds}
use Rattle.std.specs.Char.{IsScalar, encode_utf8}
use Rattle.std.specs.Str.{IsUtf8}
use Rattle.wtf8_core.specs.Character.{WholeCharacter}
use Rattle.wtf8_core.specs.Chunks.{Chunk, AreChunks}
use Rattle.wtf8_core.specs.Covered.{StartsWithNoCharacter}
use Rattle.wtf8_core.specs.UnitsOf.{units_of}
use Rattle.wtf8_core.specs.Wtf8.{IsWtf8}
use Rattle.wtf8_core.proofs.lemmas.characters.AtIndices.{none_begins}
use Rattle.wtf8_core.proofs.lemmas.characters.Seams.{text_covered, seam_at_start, whole_within}
use Rattle.wtf8_core.proofs.lemmas.chunks.OneList.{some_chunks}
use Rattle.wtf8_core.proofs.lemmas.chunks.PartUnits.{first_unit}
use Rattle.wtf8_core.proofs.lemmas.forms.ByStd.{form_encode}
use Rattle.wtf8_core.proofs.lemmas.occurrence.Indices.{no_units}
use Rattle.wtf8_core.proofs.lemmas.occurrence.Wtf8.{wtf8_occurrence}
use Rattle.platform_str.specs.Laws.{IsFirstUnit}
use Rattle.platform_str.specs.PlatformWords.{itself}
use Rattle.platform_str.specs.platforms.Wasm.{never_uncovered}
use Rattle.platform_str.specs.platforms.Windows.{windows_laws}
use Rattle.os_str_ext.specs.Chunks.{chunks_of, IsFirstChunk}
use Rattle.os_str_ext.specs.Symbols.{AreSymbols, symbols_of, unit_symbol}
use Rattle.os_str_ext.specs.declared.symbols.Symbol.{Symbol}
use Rattle.os_str_ext.specs.declared.symbols.Symbol.TheVariants.{Character}
use Rattle.os_str_ext.proofs.lemmas.EachChunk.{first_of}
use Rattle.os_str_ext.proofs.lemmas.FirstChunk.{edges, part_is_uncovered}
use Rattle.os_str_ext.proofs.lemmas.SymbolSteps.{symbols_by_character, symbols_by_unit}
use Rattle.osbytes_c.specs.Faults.{IsString, IsUnstring}
use Rattle.osbytes_c.specs.Platforms.{units_on}
use Rattle.osbytes_c.specs.SymbolFills.{IsSymbolStep}
use Rattle.osbytes_c.specs.Steps.{Reports, IsSymbolAt, IsFirstOf, IsSurrogatePrefix, StartsWithNoSymbol, StartsWithSymbol, step_after}
use Rattle.osbytes_c.specs.declared.walks.symbols.Step.{Step}

-- what follows a text within a text is one
text_after : (x y : List ℕ) → IsUtf8 x → IsUtf8 (x ++ y) → IsUtf8 y
text_after x y u v =
    subst IsUtf8 (drop_at x y (length x) refl) (IsUtf8-drop (x ++ y) (length x) v (IsCharBoundary-from_take (x ++ y) (length x) v (omega (arith, length-append x y)) (subst IsUtf8 (sym (take_at x y (length x) refl)) u)))

-- where the first chunk ends
ends_by : (s : List ℕ) (cs : List Chunk) → AreChunks s cs → 0 < length s → (m : ℕ) × (e : ℕ) × IsFirstChunk s m e
ends_by s [] h some = absurd (let n = ap length h.joins in omega (arith, some, n))
ends_by s (c ∷ cs) h some = let f = first_of s c cs h in (length c.0, f.end, f.ends)

first_ends : (s : List ℕ) → 0 < length s → (m : ℕ) × (e : ℕ) × IsFirstChunk s m e
first_ends s some = ends_by s (chunks_of s) (some_chunks s).1 some

module _ (c : ℕ) (s rest : List ℕ) (scalar : IsScalar c) (starts : s ≡ encode_utf8 c ++ rest) where
  abbrev width : ℕ
  width = length (encode_utf8 c)

  pub some_n : 0 < width
  some_n = let l = length-encode c in let b = len_utf8_bounds c in omega (arith, l, b.0)

  pub size : length s ≡ width + length rest
  size = ap length starts ∙ length-append (encode_utf8 c) rest

  pub rest_is : drop width s ≡ rest
  rest_is = ap (drop width) starts ∙ drop_at (encode_utf8 c) rest width refl

  pub by_character : (units : List ℕ → List ℕ) → units [] ≡ [] → symbols_of units s ≡ Character c ∷ symbols_of units rest
  by_character units none = symbols_by_character s rest c scalar starts units none

-- bytes that begin with no whole character have a part
module _ (s : List ℕ) (some : 0 < length s) (uncovered : StartsWithNoCharacter s) where
  some_part : (m e : ℕ) → IsFirstChunk s m e → 0 < m
  some_part m e h =
      ⊎_elim (λ lt. lt) (λ ge.
      let start : m ≡ 0 = omega (arith, ge) in
      let pos = h.some (omega (arith, start, some)) in
      let utf8 : IsUtf8 (take e s) = subst (λ i. IsUtf8 (drop i (take e s))) start h.text in
      let c = (text_covered s [] (take e s) (drop e s) (sym (take-append-drop e s)) utf8 (seam_at_start s)).0 0 (omega arith) (omega (arith, pos, length-take-le e s h.within)) in
      let from = c.from in
      absurd (uncovered c.end (subst (λ i. WholeCharacter s i c.end) (omega (arith, from)) c.whole))) (cases_lt 0 m)

  pub by_unit : (well_formed : List ℕ → Type 0) (units : List ℕ → List ℕ) → units [] ≡ [] → (u n : ℕ)
      → ((m e : ℕ) → IsFirstChunk s m e → 0 < m → IsFirstUnit well_formed units (take m s) u n) → symbols_of units s ≡ unit_symbol u ∷ symbols_of units (drop n s)
  by_unit well_formed units none u n first =
      let f = first_ends s some in
      let m = f.0 in
      let e = f.1 in
      let h = f.2 in
      symbols_by_unit well_formed units s m e u n h (first m e h (some_part m e h)) some none

-- the units of no bytes
none_on : (p : ℕ) → units_on p [] ≡ []
none_on zero = refl
none_on (suc zero) = no_units IsWtf8 units_of wtf8_occurrence
none_on (suc (suc p)) = refl

-- what follows a text at the start of a string is a string
after_on : (p : ℕ) (s : List ℕ) (n : ℕ) → IsString p s → IsUtf8 (take n s) → IsString p (drop n s)
after_on zero s n w t = tt
after_on (suc zero) s n w t = windows_laws.after_text s n w t
after_on (suc (suc zero)) s n w t = text_after (take n s) (drop n s) t (subst IsUtf8 (sym (take-append-drop n s)) w)
after_on (suc (suc (suc p))) s n w t = absurd w

pub symbols_are : (units : List ℕ → List ℕ) (s : List ℕ) (xs : List Symbol) → symbols_of units s ≡ xs → AreSymbols units s xs
symbols_are units s xs e = record { chunks = chunks_of s; are_chunks = (some_chunks s).1; are = sym e }

-- the step to the first symbol, where these are the symbols
first_step : (p : ℕ) (s : List ℕ) (first : Symbol) (step : Step) → Reports first step.kind step.value → symbols_of (units_on p) s ≡ first ∷ symbols_of (units_on p) (drop step.end s)
    → IsString p (drop step.end s) → 0 < step.end → step.end ≤ length s → IsFirstOf p s step
first_step p s first step is e formed some within = record {
  first = first;
  after = symbols_of (units_on p) (drop step.end s);
  is = is;
  all = symbols_are (units_on p) s (first ∷ symbols_of (units_on p) (drop step.end s)) e;
  rest = symbols_are (units_on p) (drop step.end s) (symbols_of (units_on p) (drop step.end s)) refl;
  formed = formed;
  ordered = some;
  within = within;
}

-- a character at the start
pub character_first : (p c : ℕ) (s rest : List ℕ) (step : Step) → IsScalar c → s ≡ encode_utf8 c ++ rest → (step.kind ≡ 1) × (step.value ≡ c) → step.end ≡ length s - length rest → IsString p s → IsFirstOf p s step
character_first p c s rest step scalar starts is end w =
    let n = length (encode_utf8 c) in
    let sizes = size c s rest scalar starts in
    let some = some_n c s rest scalar starts in
    let same : step.end ≡ n = end ∙ omega (arith, sizes) in
    let prefix : take n s ≡ encode_utf8 c = ap (take n) starts ∙ take_at (encode_utf8 c) rest n refl in
    let left = rest_is c s rest scalar starts in
    let suffix : drop n s ≡ drop step.end s = ap (λ k. drop k s) (sym same) in
    first_step p s (Character c) step is
    (by_character c s rest scalar starts (units_on p) (none_on p) ∙ ap (λ x. Character c ∷ symbols_of (units_on p) x) (sym left ∙ suffix))
    (subst (IsString p) suffix (after_on p s n w (subst IsUtf8 (sym prefix) (IsUtf8-encode c scalar))))
    (omega (arith, same, some)) (omega (arith, same, sizes))

-- bytes begin with it
pub character_starts : (p c : ℕ) (s rest : List ℕ) (step : Step) → IsScalar c → s ≡ encode_utf8 c ++ rest → (step.kind ≡ 1) × (step.value ≡ c) → step.end ≡ length s - length rest → StartsWithSymbol p s step
character_starts p c s rest step scalar starts is end =
    let n = length (encode_utf8 c) in
    let sizes = size c s rest scalar starts in
    let same : step.end ≡ n = end ∙ omega (arith, sizes) in
    let prefix : take n s ≡ encode_utf8 c = ap (take n) starts ∙ take_at (encode_utf8 c) rest n refl in
    inl (is.0, (subst IsScalar (sym is.1) scalar, ap (λ k. take k s) same ∙ prefix ∙ ap encode_utf8 (sym is.1)))

-- a byte of Unix
unix_unit : (s : List ℕ) → 0 < length s → (m : ℕ) → 0 < m → IsFirstUnit (λ _. Unit {0}) itself (take m s) (slice_index_or s 0 0) 1
unix_unit [] some m pos = absurd (omega (arith, some))
unix_unit (x ∷ t) some zero pos = absurd (omega (arith, pos))
unix_unit (x ∷ t) some (suc m) pos = record { some = omega arith; within = omega arith; after = tt; units_are = refl }

pub byte_first : (s : List ℕ) (step : Step) → 0 < length s → StartsWithNoCharacter s → (step.kind ≡ 2) × (step.value ≡ slice_index_or s 0 0) → step.end ≡ 1 → IsFirstOf 0 s step
byte_first s step some uncovered is end =
    first_step 0 s (unit_symbol (slice_index_or s 0 0)) step is
    (by_unit s some uncovered (λ _. Unit {0}) itself refl (slice_index_or s 0 0) 1 (λ m e h pos. unix_unit s some m pos) ∙ ap (λ k. unit_symbol (slice_index_or s 0 0) ∷ symbols_of itself (drop k s)) (sym end))
    tt (omega (arith, end)) (omega (arith, end, some))

-- a surrogate of Windows
surrogate_unit : (s : List ℕ) (u : ℕ) → IsWtf8 s → IsSurrogatePrefix s u → (m e : ℕ) → IsFirstChunk s m e → 0 < m → IsFirstUnit IsWtf8 units_of (take m s) u 3
surrogate_unit s u w prefix m e h pos =
    let part = take m s in
    let within = h.within in
    let ordered = h.ordered in
    let length_part = length-take-le m s (omega (arith, within, ordered)) in
    let formed = windows_laws.cut_prefix s m w (edges s m e h).0 in
    let k = first_unit part formed (omega (arith, length_part, pos)) (part_is_uncovered s m e h 0) in
    let f = k.1 in
    let short = f.within in
    let same : take 3 part ≡ take 3 s = take-take 3 m s (omega (arith, length_part, short)) in
    let both = wtf8_occurrence.prefixes (take 3 part) (drop 3 part) (subst IsWtf8 (sym same) prefix.formed) (subst IsWtf8 (sym (take-append-drop 3 part)) formed) in
    let units : k.0 ∷ units_of (drop 3 part) ≡ u ∷ units_of (drop 3 part) =
    sym f.first ∙ ap units_of (sym (take-append-drop 3 part)) ∙ both.1 ∙ ap (λ x. x ++ units_of (drop 3 part)) (ap units_of same ∙ prefix.units_are) in
    record { some = omega arith; within = short; after = f.rest; units_are = f.first ∙ units }

pub surrogate_first : (s : List ℕ) (u : ℕ) (step : Step) → 0 < length s → StartsWithNoCharacter s → IsSurrogatePrefix s u → (step.kind ≡ 2) × (step.value ≡ u) → step.end ≡ 3 → IsWtf8 s → IsFirstOf 1 s step
surrogate_first s u step some uncovered prefix is end w =
    let formed = (first_unit s w some uncovered).1.rest in
    first_step 1 s (unit_symbol u) step is
    (by_unit s some uncovered IsWtf8 units_of (none_on 1) u 3 (surrogate_unit s u w prefix) ∙ ap (λ k. unit_symbol u ∷ symbols_of units_of (drop k s)) (sym end))
    (subst (λ k. IsWtf8 (drop k s)) (sym end) formed) (omega (arith, end)) (omega (arith, end, prefix.within))

-- from an index on
pub step_from : (p : ℕ) (s : List ℕ) (at : ℕ) (step : Step) → at ≤ length s → IsFirstOf p (drop at s) step → IsSymbolAt p s at (record { kind = step.kind; value = step.value; end = at + step.end })
step_from p s at step le h =
    let moved : drop step.end (drop at s) ≡ drop (at + step.end) s = drop-drop step.end at s in
    record {
      first = h.first;
      after = h.after;
      is = h.is;
      all = h.all;
      rest = subst (λ x. AreSymbols (units_on p) x h.after) moved h.rest;
      formed = subst (IsString p) moved h.formed;
      ordered = let o = h.ordered in omega (arith, o);
      within = let w = h.within in omega (arith, w, length-drop at s, le);
    }

pub starts_from : (p : ℕ) (s : List ℕ) (at : ℕ) (step : Step) → StartsWithSymbol p (drop at s) step → StartsWithSymbol p (drop at s) (step_after at (record { kind = step.kind; value = step.value; end = at + step.end }))
starts_from p s at step h = subst (λ e. StartsWithSymbol p (drop at s) (record { kind = step.kind; value = step.value; end = e })) (omega arith) h

-- the first three bytes of WTF-8 that begins with no whole character
pub prefix_uncovered : (s : List ℕ) → StartsWithNoCharacter s → StartsWithNoCharacter (take 3 s)
prefix_uncovered s uncovered j w =
    let z : 0 + j ≡ j = omega arith in
    uncovered j (subst (WholeCharacter s 0) z (whole_within s [] (take 3 s) (drop 3 s) 0 j (sym (take-append-drop 3 s)) w))

pub prefix_within : (s : List ℕ) → 0 < length s → StartsWithNoCharacter s → IsWtf8 s → 3 ≤ length s
prefix_within s some uncovered w = (first_unit s w some uncovered).1.within

pub prefix_formed : (s : List ℕ) → 0 < length s → StartsWithNoCharacter s → IsWtf8 s → IsWtf8 (take 3 s)
prefix_formed s some uncovered w =
    wtf8_occurrence.ends (take 3 s) (drop 3 s) (first_unit s w some uncovered).1.rest (subst IsWtf8 (sym (take-append-drop 3 s)) w)

pub prefix_units : (s : List ℕ) (u : ℕ) → 3 ≤ length s → IsFirstUnit IsWtf8 units_of (take 3 s) u 3 → units_of (take 3 s) ≡ u ∷ []
prefix_units s u le first =
    let none : drop 3 (take 3 s) ≡ [] = drop_all 3 (take 3 s) (omega (arith, length-take-le 3 s le)) in
    first.units_are ∙ ap (λ x. u ∷ units_of x) none ∙ ap (λ x. u ∷ x) (none_on 1)

-- no string of wasm begins so
pub unstring_of_wasm : (p : ℕ) (s : List ℕ) → ¬ (p ≡ 0) → ¬ (p ≡ 1) → p ≤ 2 → 0 < length s → StartsWithNoCharacter s → IsUnstring p s
unstring_of_wasm zero s a b c some uncovered = absurd (a refl)
unstring_of_wasm (suc zero) s a b c some uncovered = absurd (b refl)
unstring_of_wasm (suc (suc zero)) s a b c some uncovered = λ u. never_uncovered s u some uncovered
unstring_of_wasm (suc (suc (suc p))) s a b c some uncovered = absurd (omega (arith, c))

-- where no symbol begins, no character does
uncovered_of : (p : ℕ) (s : List ℕ) → StartsWithNoSymbol p s → StartsWithNoCharacter s
uncovered_of zero s h = absurd h
uncovered_of (suc zero) s h = h.0
uncovered_of (suc (suc zero)) s h = h
uncovered_of (suc (suc (suc p))) s h = absurd h

-- a character is a symbol
pub character_is_symbol : (p c : ℕ) (s rest : List ℕ) → IsScalar c → s ≡ encode_utf8 c ++ rest → ¬ (StartsWithNoSymbol p s)
character_is_symbol p c s rest scalar starts none =
    none_begins s (uncovered_of p s none) c rest scalar (starts ∙ ap (λ x. x ++ rest) (sym (form_encode c)))

-- on wasm there are no symbols but characters
pub no_symbol_of_wasm : (p : ℕ) (s : List ℕ) → ¬ (p ≡ 0) → ¬ (p ≡ 1) → p ≤ 2 → StartsWithNoCharacter s → StartsWithNoSymbol p s
no_symbol_of_wasm zero s a b c uncovered = absurd (a refl)
no_symbol_of_wasm (suc zero) s a b c uncovered = absurd (b refl)
no_symbol_of_wasm (suc (suc zero)) s a b c uncovered = uncovered
no_symbol_of_wasm (suc (suc (suc p))) s a b c uncovered = absurd (omega (arith, c))

-- a character of ASCII
pub ascii_step : (p : ℕ) (s : List ℕ) (at b : ℕ) → at < length s → get_or s at 0 ≡ b → b < 0x80 → IsSymbolStep p s at (record { kind = 1; value = b; end = at + 1 })
ascii_step p s at b less is ascii =
    let scalar : IsScalar b = low_scalar b (omega (arith, ascii)) in
    let rest = drop (at + 1) s in
    let starts : drop at s ≡ encode_utf8 b ++ rest = drop_more s at 0 less ∙ ap (λ x. x ∷ rest) is ∙ ap (λ x. x ++ rest) (sym (encode_ascii b ascii)) in
    let step : Step = record { kind = 1; value = b; end = 1 } in
    let end : 1 ≡ length (drop at s) - length rest = omega (arith, less, length-drop at s, length-drop (at + 1) s) in
    record {
      symbol = λ w. step_from p s at step (omega (arith, less)) (character_first p b (drop at s) rest step scalar starts (refl, refl) end w);
      first = starts_from p s at step (character_starts p b (drop at s) rest step scalar starts (refl, refl) end);
      some = omega arith;
      within = omega (arith, less);
    }
