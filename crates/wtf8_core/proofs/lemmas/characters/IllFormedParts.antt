-- No whole character starts or ends inside a maximal ill-formed part, and none extends across its start or end.
use Rattle.wtf8_core.proofs.Common.{◌≡◌, ◌⊎◌, inl, inr, ⊎_elim, ℕ, ◌+◌, ◌-◌, ◌<◌, ◌≤◌, List, [], length, take, drop, get_or, Option, Some, None, sym, ap, ◌∙◌, subst, arith, length-drop, take-append-drop, take-length, cases_lt, cases_eq, get_or-drop, get_or-take, length-take-le, MatchOption, IsUtf8, IsContinuation, WholeCharacter, CrossesNoCharacter, IsPrefixOfCharacter, IsProperPrefix, IsIllFormed, IsUtf8Fault, part_end}
use Rattle.wtf8_core.proofs.lemmas.{characters.AtIndices.none_at, characters.AtIndices.character_fits, characters.Overlaps.no_start, characters.Seams.seam_at_start, characters.Seams.text_covered, texts.StdFaults.no_char, texts.StdFaults.after_prefix}

-- no whole character extends across the end of a text at the start
pub seam_after_text : (s : List ℕ) (v : ℕ) → v ≤ length s → IsUtf8 (take v s) → CrossesNoCharacter s v
seam_after_text s v l u =
    let size : 0 + length (take v s) ≡ v = omega (arith, length-take-le v s l) in
    subst (CrossesNoCharacter s) size (text_covered s [] (take v s) (drop v s) (sym (take-append-drop v s)) u (seam_at_start s)).1

-- none starts after the first byte of a prefix of a character
none_inside : (s : List ℕ) (v k a b : ℕ) → (1 < k → IsPrefixOfCharacter (take k (drop v s))) → k ≤ length (drop v s) → WholeCharacter s a b → v < a → a < v + k → ⊥
none_inside s v k a b prefix fits w low high =
    let m = a - v in
    let l : length (take k (drop v s)) ≡ k = length-take-le k (drop v s) fits in
    let c = after_prefix (take k (drop v s)) (prefix (omega arith)) m (omega arith) (omega arith) in
    let z : v + m ≡ a = omega arith in
    let e : get_or (take k (drop v s)) m 0 ≡ get_or s a 0 = get_or-take k (drop v s) m 0 (omega arith) ∙ get_or-drop v s m 0 ∙ ap (λ j. get_or s j 0) z in
    no_start s a b (subst IsContinuation e c) w

-- each whole character ends before the ill-formed part, or starts after it
pub apart_from_part : (s : List ℕ) (v : ℕ) (len : Option ℕ) → IsUtf8Fault s v len → (a b : ℕ) → WholeCharacter s a b → (b ≤ v) ⊎ (part_end s v len ≤ a)
apart_from_part s v len w a b c =
    let short = w.valid.short in
    let f = character_fits s a b c in
    ⊎_elim
    (λ before. inl (⊎_elim (λ past. absurd (seam_after_text s v (omega arith) w.valid.front a b c before past)) (λ le. le) (cases_lt v b)))
    (λ from. ⊎_elim
    (λ at. absurd (none_at s v (no_char s v w.valid) b (subst (λ x. WholeCharacter s x b) at c)))
    (λ ne. inr (after len w.part (omega arith)))
    (cases_eq a v))
    (cases_lt a v)
  where
    after : (len : Option ℕ) → MatchOption len (IsProperPrefix (drop v s)) (IsIllFormed (drop v s)) → v < a → part_end s v len ≤ a
    after None p low =
        let k = length (drop v s) in
        let size : k ≡ length s - v = length-drop v s in
        ⊎_elim
        (λ lt. absurd (none_inside s v k a b (λ _. subst IsPrefixOfCharacter (sym (take-length (drop v s))) p.prefix) (omega arith) c low (omega arith)))
        (λ ge. ge)
        (cases_lt a (length s))
    after (Some k) p low =
        ⊎_elim (λ lt. absurd (none_inside s v k a b p.prefix p.within c low lt)) (λ ge. ge) (cases_lt a (v + k))
