-- The symbols of a string, taken off one by one.
use Rattle.os_str_ext.proofs.Common.{◌≡◌, ⊎_elim, ℕ, ◌+◌, ◌-◌, ◌<◌, ◌≤◌, List, [], ◌∷◌, ◌++◌, map, length, take, drop, refl, sym, ap, ◌∙◌, subst, arith, append_assoc, append-nil, length-append, length-drop, take-append-drop, drop-drop, cases_lt, cases_eq, length-take-le, drop-take, drop_at, take_at, encode_same, IsScalar, encode_utf8, IsUtf8, chars, encode_utf8_all, WholeCharacter, encode, IsCovered, character_fits, whole_at, whole_within, form_encode, IsFirstUnit, IsUncoveredUpTo, IsFirstChunk, chunks_symbols, symbols_of, unit_symbol, Character}
use Rattle.std.proofs.lemmas.Str.{IsUtf8-past_char, chars-nil, chars_past_char}
use Rattle.wtf8_core.proofs.lemmas.characters.Seams.{covered_within}
use Rattle.os_str_ext.proofs.lemmas.{EachChunk.text_end, FirstChunk.first_and_rest, FirstChunk.first_of_parts, FirstChunk.no_chunks}

-- no bytes have no symbols
pub no_symbols : (units : List ℕ → List ℕ) (s : List ℕ) → s ≡ [] → symbols_of units s ≡ []
no_symbols units s e = ap (chunks_symbols units) (no_chunks s e)

-- what is left of a list from an index on, and of that up to another index
left_after : (s : List ℕ) (n e : ℕ) → n ≤ e → drop (e - n) (drop n s) ≡ drop e s
left_after s n e le = drop-drop (e - n) n s ∙ ap (λ k. drop k s) (omega (arith, le))

left_between : (s : List ℕ) (n e : ℕ) → n ≤ e → take (e - n) (drop n s) ≡ drop n (take e s)
left_between s n e le = sym (drop-take n (e - n) s) ∙ ap (λ k. drop n (take k s)) (omega (arith, le))

module _ (units : List ℕ → List ℕ) where
  -- the symbols by where the first chunk ends
  by_first_chunk : (s : List ℕ) (m e : ℕ) → IsFirstChunk s m e → 0 < length s → symbols_of units s ≡ map unit_symbol (units (take m s)) ++ (map Character (chars (drop m (take e s))) ++ symbols_of units (drop e s))
  by_first_chunk s m e h some =
      ap (chunks_symbols units) (first_and_rest s m e h some) ∙ append_assoc (map unit_symbol (units (take m s))) (map Character (chars (drop m (take e s)))) (symbols_of units (drop e s))

  of_nothing : (s : List ℕ) → units [] ≡ [] → symbols_of units s ≡ map unit_symbol (units []) ++ (map Character (chars []) ++ symbols_of units s)
  of_nothing s none = sym (ap (λ us. map unit_symbol us ++ (map Character (chars []) ++ symbols_of units s)) none ∙ ap (λ cs. map Character cs ++ symbols_of units s) chars-nil)

  -- the same if nothing of that chunk is left
  laid_out : (s : List ℕ) (m e : ℕ) → units [] ≡ [] → m ≤ e → (0 < e → IsFirstChunk s m e) → symbols_of units s ≡ map unit_symbol (units (take m s)) ++ (map Character (chars (drop m (take e s))) ++ symbols_of units (drop e s))
  laid_out s m e none le h =
      ⊎_elim (λ some. let f = h some in by_first_chunk s m e f (omega (arith, some, f.within)))
      (λ ge. let zm : m ≡ 0 = omega (arith, ge, le) in let ze : e ≡ 0 = omega (arith, ge) in rw (zm, ze) (of_nothing s none)) (cases_lt 0 e)

-- the first chunk of what is left after n bytes
module _ (s : List ℕ) (m e n : ℕ) (h : IsFirstChunk s m e) (within : n ≤ e) where
  covered : (k : ℕ) → IsCovered (drop n s) k → IsCovered s (n + k)
  covered k c =
      let size : length (take n s) ≡ n = length-take-le n s (omega (arith, within, h.within)) in
      let parts : s ≡ take n s ++ (drop n s ++ []) = sym (ap (λ x. take n s ++ x) (append-nil (drop n s)) ∙ take-append-drop n s) in
      subst (λ x. IsCovered s (x + k)) size (covered_within s (take n s) (drop n s) [] k parts c)

  first_left : n < e → IsUtf8 (drop (m - n) (take (e - n) (drop n s))) → IsFirstChunk (drop n s) (m - n) (e - n)
  first_left lt text =
      let ordered = h.ordered in
      let inside = h.within in
      let size = length-drop n s in
      let z : n + (e - n) ≡ e = omega arith in
      record {
        ordered = omega arith;
        within = omega arith;
        uncovered = λ k low c. h.uncovered (n + k) (omega (arith, low)) (covered k c);
        text = text;
        some = λ l. ⊎_elim (λ below. omega (arith, h.some below)) (λ past. absurd (omega (arith, l, past))) (cases_lt m (length s));
        ended = λ l c. h.ended (omega (arith, l)) (subst (IsCovered s) z (covered (e - n) c));
      }

-- a part ends where a character begins
part_before_character : (s : List ℕ) (i j : ℕ) → IsUncoveredUpTo s i → WholeCharacter s i j → (e : ℕ) × IsFirstChunk s i e
part_before_character s i j uncovered w =
    let t = text_end s i uncovered.within in
    let some : i < t.0 = ⊎_elim (λ same. absurd (t.1.ended j (subst (λ k. WholeCharacter s k j) same w))) (λ ne. omega (arith, ne, t.1.ordered)) (cases_eq i t.0) in
    (t.0, first_of_parts s i t.0 uncovered.uncovered (λ _. some) t.1.ordered t.1.within t.1.text t.1.ended)

-- after the first unit of the part
module _ (well_formed : List ℕ → Type 0) (units : List ℕ → List ℕ) (s : List ℕ) (m e u n : ℕ) (h : IsFirstChunk s m e) (first : IsFirstUnit well_formed units (take m s) u n) where
  in_part : n ≤ m
  in_part = let w = first.within in omega (arith, length-take-le m s (omega (arith, h.ordered, h.within)))

  in_chunk : n ≤ e
  in_chunk = omega (arith, in_part, h.ordered)

  same_text : drop (m - n) (take (e - n) (drop n s)) ≡ drop m (take e s)
  same_text = ap (drop (m - n)) (left_between s n e in_chunk) ∙ left_after (take e s) n m in_part

  chunk_left : n < e → IsFirstChunk (drop n s) (m - n) (e - n)
  chunk_left lt = first_left s m e n h in_chunk lt (subst IsUtf8 (sym same_text) h.text)

  pub symbols_by_unit : 0 < length s → units [] ≡ [] → symbols_of units s ≡ unit_symbol u ∷ symbols_of units (drop n s)
  symbols_by_unit some none =
      let after = map Character (chars (drop m (take e s))) ++ symbols_of units (drop e s) in
      by_first_chunk units s m e h some
      ∙ ap (λ us. map unit_symbol us ++ after) first.units_are
      ∙ ap (λ x. unit_symbol u ∷ x)
      (ap (λ b. map unit_symbol (units b) ++ after) (sym (left_between s n m in_part))
      ∙ ap (λ t. map unit_symbol (units (take (m - n) (drop n s))) ++ (map Character (chars t) ++ symbols_of units (drop e s))) (sym same_text)
      ∙ ap (λ r. map unit_symbol (units (take (m - n) (drop n s))) ++ (map Character (chars (drop (m - n) (take (e - n) (drop n s)))) ++ symbols_of units r)) (sym (left_after s n e in_chunk))
      ∙ sym (laid_out units (drop n s) (m - n) (e - n) none (omega (arith, h.ordered)) (λ pos. chunk_left (omega (arith, pos)))))

-- the first k bytes of s are a text that begins with c
record BeginsText (s rest : List ℕ) (c k : ℕ) : Type 0 where
  left : List ℕ
  text : take k s ≡ encode_utf8 c ++ left
  utf8 : IsUtf8 left
  rest_is : rest ≡ left ++ drop k s

-- after the first character
module _ (s rest : List ℕ) (c : ℕ) (scalar : IsScalar c) (is : s ≡ encode_utf8 c ++ rest) where
  starts : WholeCharacter s 0 (0 + length (encode c))
  starts = whole_at s 0 c rest (omega arith) scalar (is ∙ ap (λ f. f ++ rest) (sym (form_encode c)))

  some : 0 < length s
  some = let f = character_fits s 0 (0 + length (encode c)) starts in omega (arith, f)

  begins_text : (k : ℕ) → 0 < k → k ≤ length s → IsUtf8 (take k s) → BeginsText s rest c k
  begins_text k lt within u = by_chars u.0 u.1.1
    where
      by_chars : (cs : List ℕ) → encode_utf8_all cs ≡ take k s → BeginsText s rest c k
      by_chars [] e = absurd (omega (arith, ap length e, length-take-le k s within, lt))
      by_chars (d ∷ ds) e =
          let left = encode_utf8_all ds in
          let same = encode_same d c (left ++ drop k s) rest (sym (append_assoc (encode_utf8 d) left (drop k s)) ∙ ap (λ x. x ++ drop k s) e ∙ take-append-drop k s ∙ is) in
          record {
            left = left;
            text = sym e ∙ ap (λ x. encode_utf8 x ++ left) same.0;
            utf8 = IsUtf8-past_char (take k s) left d u (sym e);
            rest_is = sym same.1;
          }

  pub symbols_by_character : (units : List ℕ → List ℕ) → units [] ≡ [] → symbols_of units s ≡ Character c ∷ symbols_of units rest
  symbols_by_character units none =
      let chunk = part_before_character s 0 (0 + length (encode c)) (record { within = omega arith; uncovered = λ k j lt w. absurd (omega (arith, lt)) }) starts in
      let e = chunk.0 in
      let h = chunk.1 in
      let b = begins_text e (h.some some) h.within h.text in
      let l = length b.left in
      let after = symbols_of units (drop e s) in
      let end : length (encode_utf8 c) + l ≡ e = sym (ap length b.text ∙ length-append (encode_utf8 c) b.left) ∙ length-take-le e s h.within in
      let prefix : take l rest ≡ b.left = ap (take l) b.rest_is ∙ take_at b.left (drop e s) l refl in
      let suffix : drop l rest ≡ drop e s = ap (drop l) b.rest_is ∙ drop_at b.left (drop e s) l refl in
      let last : (j : ℕ) → WholeCharacter rest l j → ⊥ = λ j w.
      let whole = subst (λ i. WholeCharacter s i (length (encode_utf8 c) + j)) end (whole_within s (encode_utf8 c) rest [] l j (is ∙ ap (λ r. encode_utf8 c ++ r) (sym (append-nil rest))) w) in
      let f = character_fits s e (length (encode_utf8 c) + j) whole in
      h.ended (omega (arith, f)) (record { start = e; end = length (encode_utf8 c) + j; whole = whole; from = omega arith; below = omega (arith, f) }) in
      let within : l ≤ length rest = omega (arith, ap length b.rest_is, length-append b.left (drop e s)) in
      let left : 0 < l → IsFirstChunk rest 0 l = λ pos. first_of_parts rest 0 l (λ k j lt w. absurd (omega (arith, lt))) (λ _. pos) (omega arith) within (subst IsUtf8 (sym prefix) b.utf8) last in
      by_first_chunk units s 0 e h some
      ∙ ap (λ us. map unit_symbol us ++ (map Character (chars (take e s)) ++ after)) none
      ∙ ap (λ cs. map Character cs ++ after) (chars_past_char (take e s) b.left c h.text b.text)
      ∙ ap (λ x. Character c ∷ x)
      (ap (λ x. map Character (chars x) ++ after) (sym prefix)
      ∙ ap (λ x. map Character (chars (take l rest)) ++ symbols_of units x) (sym suffix)
      ∙ ap (λ us. map unit_symbol us ++ (map Character (chars (take l rest)) ++ symbols_of units (drop l rest))) (sym none)
      ∙ sym (laid_out units rest 0 l none (omega arith) left))
