-- Bytes at the start of a string at which no whole character starts, by the faults there.
use Rattle.os_str_ext.proofs.Common.{◌≡◌, ◌⊎◌, ⊎_elim, ℕ, ◌+◌, ◌-◌, ◌<◌, ◌≤◌, List, [], ◌++◌, length, take, drop, get_or, Option, sym, ap, ◌∙◌, subst, arith, length-drop, take-append-drop, append-nil, drop-drop, cases_lt, cases_eq, get_or-drop, length-take-le, take-length, IsUtf8, encode, WholeCharacter, form_bounds, character_fits, begins_at, in_rest, whole_within, IsUncoveredUpTo, IsFirstChunk}
use Rattle.std.proofs.lemmas.List.{get_or_append_left}
use Rattle.wtf8_core.specs.Utf8.{IsUtf8Fault, part_end}
use Rattle.wtf8_core.proofs.lemmas.{characters.FourBytes.past_ascii, characters.IllFormedParts.apart_from_part, texts.StdFaults.First, texts.StdFaults.lead_of}
use Rattle.os_str_ext.specs.Chunks.{BeginsNoCharacter}
use Rattle.os_str_ext.proofs.lemmas.FirstChunk.{first_of_parts, text_from, no_character_after, without_character}

-- no whole character starts at a byte with which none begins
pub no_beginning : (s : List ℕ) (a b : ℕ) → BeginsNoCharacter (get_or s a 0) → WholeCharacter s a b → ⊥
no_beginning s a b n w =
    let c = w.char in
    let here : a ≡ a + 0 = omega arith in
    let same : get_or s a 0 ≡ get_or (encode c) 0 0 =
    ap (λ i. get_or s i 0) here ∙ sym (get_or-drop a s 0 0) ∙ ap (λ l. get_or l 0 0) (begins_at s a b w) ∙ get_or_append_left (encode c) w.occurs.after 0 0 (form_bounds c).0 in
    n.1 (subst First (sym same) (lead_of c w.scalar (past_ascii c (subst (λ x. 0x80 ≤ x) same n.0))))

-- one byte more, if no character starts there
uncovered_next : (s : List ℕ) (i : ℕ) → IsUncoveredUpTo s i → i < length s → ((j : ℕ) → ¬ (WholeCharacter s i j)) → IsUncoveredUpTo s (i + 1)
uncovered_next s i p lt none = record {
  within = omega (arith, lt);
  uncovered = λ k j low w. ⊎_elim (λ e. none j (subst (λ x. WholeCharacter s x j) e w)) (λ ne. p.uncovered k j (omega (arith, low, ne)) w) (cases_eq k i);
}

module _ (s : List ℕ) (i : ℕ) (p : IsUncoveredUpTo s i) where
  pub one_more : i < length s → BeginsNoCharacter (get_or s i 0) → IsUncoveredUpTo s (i + 1)
  one_more lt n = uncovered_next s i p lt (λ j. no_beginning s i j n)

  -- if those are all the bytes, all of them are the part
  pub all_uncovered : length s ≤ i → IsFirstChunk s (length s) (length s)
  all_uncovered ge = without_character s (λ k j w. let f = character_fits s k j w in p.uncovered k j (omega (arith, ge, f)) w)

  module _ (rest : List ℕ) (is : rest ≡ drop i s) where
    size : length rest ≡ length s - i
    size = ap length is ∙ length-drop i s

    -- a text up to the end
    pub text_to_end : i < length s → IsUtf8 rest → IsFirstChunk s i (length s)
    text_to_end lt u =
        first_of_parts s i (length s) p.uncovered (λ k. k) (omega (arith, lt)) (omega arith)
        (subst IsUtf8 (is ∙ sym (ap (drop i) (take-length s))) u)
        (λ j w. let f = character_fits s (length s) j w in absurd (omega (arith, f)))

    module _ (v n : ℕ) (len : Option ℕ) (f : IsUtf8Fault rest v len) (end : part_end rest v len ≡ v + n) (within : v + n ≤ length rest) where
      apart : (a b : ℕ) → WholeCharacter rest a b → (b ≤ v) ⊎ (v + n ≤ a)
      apart = subst (λ e. (a b : ℕ) → WholeCharacter rest a b → (b ≤ v) ⊎ (e ≤ a)) end (apart_from_part rest v len f)

      -- all the bytes of a fault in one step
      pub part_more : v ≡ 0 → IsUncoveredUpTo s (i + n)
      part_more zero = record {
        within = omega (arith, size, within, p.within);
        uncovered = λ k j low w. ⊎_elim (λ lt. p.uncovered k j lt w) (λ ge.
            let c = subst (λ r. WholeCharacter r (k - i) (j - i)) (sym is) (in_rest s k j i w ge) in
            let g = character_fits rest (k - i) (j - i) c in
            ⊎_elim (λ le. absurd (omega (arith, le, g, zero))) (λ le. absurd (omega (arith, le, low, ge, zero))) (apart (k - i) (j - i) c)) (cases_lt k i);
      }

      -- a text before a fault
      pub text_found : 0 < v → IsFirstChunk s i (i + v)
      text_found some =
          first_of_parts s i (i + v) p.uncovered (λ _. omega (arith, some)) (omega arith) (omega (arith, size, within, p.within))
          (text_from s rest i v is f.valid) (no_character_after s rest i v is f.valid)

      -- and the bytes of the fault, after the text
      pub uncovered_after_text : IsUncoveredUpTo (drop (i + v) s) n
      uncovered_after_text = record {
        within = omega (arith, length-drop (i + v) s, size, within, p.within);
        uncovered = λ k j low w.
            let same : drop (i + v) s ≡ drop v rest = sym (ap (drop v) is ∙ drop-drop v i s) in
            let short : length (take v rest) ≡ v = length-take-le v rest (omega (arith, within)) in
            let split : rest ≡ take v rest ++ (drop v rest ++ []) = sym (ap (λ l. take v rest ++ l) (append-nil (drop v rest)) ∙ take-append-drop v rest) in
            let here : WholeCharacter (drop v rest) k j = subst (λ l. WholeCharacter l k j) same w in
            let c = whole_within rest (take v rest) (drop v rest) [] k j split here in
            let g = character_fits (drop v rest) k j here in
            ⊎_elim (λ le. absurd (omega (arith, le, g, short))) (λ le. absurd (omega (arith, le, low, short))) (apart _ _ c);
      }
