-- The first four bytes, and the character or the ill-formed part with which they begin.
use Rattle.wtf8_core.proofs.Common.{◌≡◌, ℕ, ◌+◌, ◌<◌, ◌≤◌, List, ◌∷◌, ◌++◌, length, get_or, Some, true, false, sym, ap, ◌∙◌, subst, arith, refl, drop, [], if◌then◌else◌, cond-true, cond-false, nat_tests, get_or_append_left, IsScalar, is_in_range, utf8_error_len, second_byte_min, second_byte_max, IsContinuation, encode, IsFirstChar, IsUtf8Fault, ◌*◌, ◌%◌}
use Rattle.wtf8_core.proofs.lemmas.{characters.AtIndices.char_begins, characters.Overlaps.form_after, forms.Shapes.form_bounds, forms.Ranges.in_range, forms.Ranges.in_range-true, forms.Ranges.in_range-false, forms.Ranges.not_in_range, texts.AreWtf8.valid_none, texts.StdFaults.First, texts.StdFaults.Second, texts.StdFaults.Filled, texts.StdFaults.filled_value, texts.StdFaults.filled, texts.StdFaults.least_continuation, texts.StdFaults.lead_of, texts.StdFaults.second_of, texts.StdFaults.len_of_four, texts.StdFaults.fault_is}

-- the length of a form, by its first byte
pub past_ascii : (c : ℕ) → 0x80 ≤ get_or (encode c) 0 0 → 0x80 ≤ c
unfolding encode
past_ascii c h = grind (arith, nat_tests, h)

two_or_more : (c : ℕ) → 0x80 ≤ c → 2 ≤ length (encode c)
unfolding encode
two_or_more c h = grind (arith, nat_tests, h)

three_or_more : (c : ℕ) → IsScalar c → 0xE0 ≤ get_or (encode c) 0 0 → 3 ≤ length (encode c)
unfolding encode
three_or_more c s h = grind (arith, nat_tests, s, h)

four_or_more : (c : ℕ) → IsScalar c → 0xF0 ≤ get_or (encode c) 0 0 → 4 ≤ length (encode c)
unfolding encode
four_or_more c s h = grind (arith, nat_tests, s, h)

-- the first four bytes of a list
pub four_first : (r : List ℕ) → 4 ≤ length r → r ≡ get_or r 0 0 ∷ get_or r 1 0 ∷ get_or r 2 0 ∷ get_or r 3 0 ∷ drop 4 r
four_first (b ∷ x ∷ y ∷ z ∷ t) h = refl
four_first r h = absurd (omega (arith, h))

-- how many continuations a lead takes
two_filled : (b x : ℕ) → 0xC2 ≤ b → b < 0xE0 → b ∷ x ∷ [] ≡ Filled b x 0x80 0x80
two_filled b x h l = grind (arith, nat_tests)

three_filled : (b x y : ℕ) → 0xE0 ≤ b → b < 0xF0 → b ∷ x ∷ y ∷ [] ≡ Filled b x y 0x80
three_filled b x y h l = grind (arith, nat_tests)

four_filled : (b x y z : ℕ) → 0xF0 ≤ b → b ∷ x ∷ y ∷ z ∷ [] ≡ Filled b x y z
four_filled b x y z h = grind (arith, nat_tests)

-- any continuation may follow a lead of two bytes
pub second_of_two : (b x : ℕ) → b < 0xE0 → IsContinuation x → is_in_range (second_byte_min b) (second_byte_max b) x ≡ true
second_of_two b x l k = grind (arith, nat_tests, l, k)

pub no_second_of_two : (b x : ℕ) → b < 0xE0 → (IsContinuation x → ⊥) → is_in_range (second_byte_min b) (second_byte_max b) x ≡ false
no_second_of_two b x l n = grind (arith, nat_tests, l) ∙ not_in_range 0x80 0xBF x n

module _ (r : List ℕ) (long : 4 ≤ length r) (high : 0x80 ≤ get_or r 0 0) where
  -- what the first four bytes are if a character begins there
  pub record IsSequenceStart : Type 0 where
    pub first : First (get_or r 0 0)
    pub second : Second (get_or r 0 0) (get_or r 1 0)
    pub third : 0xE0 ≤ get_or r 0 0 → IsContinuation (get_or r 2 0)
    pub fourth : 0xF0 ≤ get_or r 0 0 → IsContinuation (get_or r 3 0)

  pub begun : (c : ℕ) (rest : List ℕ) → IsScalar c → r ≡ encode c ++ rest → IsSequenceStart
  begun c rest s e =
      let at : (i : ℕ) → i < length (encode c) → get_or r i 0 ≡ get_or (encode c) i 0 = λ i h. ap (λ l. get_or l i 0) e ∙ get_or_append_left (encode c) rest 0 i h in
      let b_is = at 0 (form_bounds c).0 in
      let past : 0x80 ≤ c = past_ascii c (subst (λ n. 0x80 ≤ n) b_is high) in
      record {
        first = subst First (sym b_is) (lead_of c s past);
        second = subst (λ n. Second n (get_or r 1 0)) (sym b_is) (subst (Second (get_or (encode c) 0 0)) (sym (at 1 (two_or_more c past))) (second_of c s past));
        third = λ h. let l = three_or_more c s (subst (λ n. 0xE0 ≤ n) b_is h) in subst IsContinuation (sym (at 2 l)) (form_after c 2 (omega arith) l);
        fourth = λ h. let l = four_or_more c s (subst (λ n. 0xF0 ≤ n) b_is h) in subst IsContinuation (sym (at 3 l)) (form_after c 3 (omega arith) l);
      }

  -- what std says of them
  std_len : utf8_error_len r
      ≡ (if is_in_range 0xC2 0xF4 (get_or r 0 0) then (if is_in_range (second_byte_min (get_or r 0 0)) (second_byte_max (get_or r 0 0)) (get_or r 1 0) then (if is_in_range 0x80 0xBF (get_or r 2 0) then Some 3 else Some 2) else Some 1) else Some 1)
  std_len = ap utf8_error_len (four_first r long) ∙ len_of_four (get_or r 0 0) (get_or r 1 0) (get_or r 2 0) (get_or r 3 0) (drop 4 r)

  -- if one of them isn't so, the part is as long as std says
  fault : (k : ℕ) → (IsSequenceStart → ⊥) → utf8_error_len r ≡ Some k → IsUtf8Fault r 0 (Some k)
  fault k n e = fault_is r 0 (Some k) (valid_none r (omega (arith, long)) (λ c rest s w. n (begun c rest s w))) (sym e)

  pub at_first : is_in_range 0xC2 0xF4 (get_or r 0 0) ≡ false → IsUtf8Fault r 0 (Some 1)
  at_first f = fault 1 (λ w. in_range-false 0xC2 0xF4 (get_or r 0 0) f w.first) (std_len ∙ cond-false _ _ _ f)

  module _ (f : is_in_range 0xC2 0xF4 (get_or r 0 0) ≡ true) where
    pub at_second : is_in_range (second_byte_min (get_or r 0 0)) (second_byte_max (get_or r 0 0)) (get_or r 1 0) ≡ false → IsUtf8Fault r 0 (Some 1)
    at_second g = fault 1 (λ w. in_range-false _ _ (get_or r 1 0) g w.second) (std_len ∙ cond-true _ _ _ f ∙ cond-false _ _ _ g)

    module _ (g : is_in_range (second_byte_min (get_or r 0 0)) (second_byte_max (get_or r 0 0)) (get_or r 1 0) ≡ true) where
      -- with as many continuations as the first one needs they are the character with these bits
      with_continuations : (y z v : ℕ) → IsContinuation y → IsContinuation z → (prefix rest : List ℕ) → prefix ≡ Filled (get_or r 0 0) (get_or r 1 0) y z → r ≡ prefix ++ rest
          → filled_value (get_or r 0 0) (get_or r 1 0) y z ≡ v → IsScalar v × IsFirstChar r v (length prefix)
      with_continuations y z v h k prefix rest e is same =
          let w = filled (get_or r 0 0) (get_or r 1 0) y z (in_range-true 0xC2 0xF4 _ f) (in_range-true _ _ (get_or r 1 0) g) h k in
          let scalar = subst IsScalar same w.0 in
          let form_is : encode v ≡ prefix = ap encode (sym same) ∙ w.1 ∙ sym e in
          (scalar, subst (λ l. IsFirstChar r v (length l)) form_is (char_begins r v rest scalar (is ∙ ap (λ l. l ++ rest) (sym form_is))))

      pub two_long : (v : ℕ) → get_or r 0 0 < 0xE0 → v ≡ get_or r 0 0 % 0x20 * 0x40 + get_or r 1 0 % 0x40 → IsScalar v × IsFirstChar r v 2
      two_long v l is =
          with_continuations 0x80 0x80 v least_continuation least_continuation (get_or r 0 0 ∷ get_or r 1 0 ∷ []) (get_or r 2 0 ∷ get_or r 3 0 ∷ drop 4 r) (two_filled (get_or r 0 0) (get_or r 1 0) (in_range-true 0xC2 0xF4 _ f).0 l) (four_first r long) (grind (arith, nat_tests))

      pub three_long : (v : ℕ) → 0xE0 ≤ get_or r 0 0 → get_or r 0 0 < 0xF0 → IsContinuation (get_or r 2 0)
          → v ≡ get_or r 0 0 % 0x10 * 0x1000 + get_or r 1 0 % 0x40 * 0x40 + get_or r 2 0 % 0x40 → IsScalar v × IsFirstChar r v 3
      three_long v h l y is =
          with_continuations (get_or r 2 0) 0x80 v y least_continuation (get_or r 0 0 ∷ get_or r 1 0 ∷ get_or r 2 0 ∷ []) (get_or r 3 0 ∷ drop 4 r) (three_filled (get_or r 0 0) (get_or r 1 0) (get_or r 2 0) h l) (four_first r long) (grind (arith, nat_tests))

      pub four_long : (v : ℕ) → 0xF0 ≤ get_or r 0 0 → IsContinuation (get_or r 2 0) → IsContinuation (get_or r 3 0)
          → v ≡ get_or r 0 0 % 0x10 * 0x4_0000 + get_or r 1 0 % 0x40 * 0x1000 + get_or r 2 0 % 0x40 * 0x40 + get_or r 3 0 % 0x40 → IsScalar v × IsFirstChar r v 4
      four_long v h y z is =
          with_continuations (get_or r 2 0) (get_or r 3 0) v y z (get_or r 0 0 ∷ get_or r 1 0 ∷ get_or r 2 0 ∷ get_or r 3 0 ∷ []) (drop 4 r) (four_filled (get_or r 0 0) (get_or r 1 0) (get_or r 2 0) (get_or r 3 0) h) (four_first r long) (grind (arith, nat_tests))

      pub at_third : 0xE0 ≤ get_or r 0 0 → (IsContinuation (get_or r 2 0) → ⊥) → IsUtf8Fault r 0 (Some 2)
      at_third l n = fault 2 (λ w. n (w.third l)) (std_len ∙ cond-true _ _ _ f ∙ cond-true _ _ _ g ∙ cond-false _ _ _ (not_in_range 0x80 0xBF (get_or r 2 0) n))

      pub at_fourth : 0xF0 ≤ get_or r 0 0 → IsContinuation (get_or r 2 0) → (IsContinuation (get_or r 3 0) → ⊥) → IsUtf8Fault r 0 (Some 3)
      at_fourth l h n = fault 3 (λ w. n (w.fourth l)) (std_len ∙ cond-true _ _ _ f ∙ cond-true _ _ _ g ∙ cond-true _ _ _ (in_range 0x80 0xBF (get_or r 2 0) h))
