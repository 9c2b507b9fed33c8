-- Bytes in whole characters and in none, and the indices across which no whole character extends.
use Rattle.wtf8_core.proofs.Common.{◌≡◌, ◌⊎◌, inl, inr, ⊎_elim, ℕ, zero, suc, ◌+◌, ◌-◌, ◌<◌, ◌≤◌, true, false, List, [], ◌∷◌, ◌++◌, length, drop, Result, Ok, Err, refl, sym, ap, ◌∙◌, subst, arith, length-append, append_assoc, and_parts, cases_lt, cases_eq, cases_Bool, drop-append_seam, scalar, IsScalar, AllByRecursion, flat_map, IsUtf8, all_scalars, IsByte, is_surrogate, encode, WholeCharacter, IsCovered, CrossesNoCharacter, first_item, EncodingError, common_steps, nat_tests}
use Rattle.wtf8_core.proofs.lemmas.{forms.Shapes.form_bounds, forms.Shapes.form_bytes, forms.ByStd.forms_encode, characters.AtIndices.character_fits, characters.AtIndices.same_end, characters.AtIndices.whole_at, characters.AtIndices.begins_at, characters.AtIndices.none_at, characters.AtIndices.none_begins, characters.AtIndices.none_past, characters.AtIndices.none_in_none, characters.AtIndices.none_at_other, characters.AtIndices.none_at_fault, characters.AtIndices.scalar_no_surrogate, characters.AtIndices.scalar_point, characters.AtIndices.is_scalar, characters.Overlaps.no_start_inside, characters.Overlaps.in_rest, reader.Sound.split_code_point}

-- P holds of each index of xs, counted from i on
abbrev pub Over : (ℕ → Type 0) → ℕ → List ℕ → Type 0
Over P i xs = (k : ℕ) → i ≤ k → k < i + length xs → P k

-- no byte of xs, or each, is in a whole character of s
abbrev pub Uncovered : List ℕ → ℕ → List ℕ → Type 0
Uncovered s i xs = Over (λ k. ¬ (IsCovered s k)) i xs

abbrev pub Covered : List ℕ → ℕ → List ℕ → Type 0
Covered s i xs = Over (IsCovered s) i xs

-- of no index, of one more index at the start, and of the indices of two lists
pub over_none : (P : ℕ → Type 0) (i : ℕ) → Over P i []
over_none P i k low high = absurd (omega arith)

pub over_first : (P : ℕ → Type 0) (i x : ℕ) (xs : List ℕ) → P i → Over P (i + 1) xs → Over P i (x ∷ xs)
over_first P i x xs h more k low high = ⊎_elim (λ e. subst P (sym e) h) (λ ne. more k (omega arith) (omega arith)) (cases_eq k i)

pub over_both : (P : ℕ → Type 0) (i : ℕ) (xs ys : List ℕ) → Over P i xs → Over P (i + length xs) ys → Over P i (xs ++ ys)
over_both P i xs ys h more k low high = ⊎_elim (λ lt. h k low lt) (λ ge. more k ge (omega (arith, length-append xs ys))) (cases_lt k (i + length xs))

-- none extends across the start
pub seam_at_start : (s : List ℕ) → CrossesNoCharacter s 0
seam_at_start s a b w low high = omega arith

-- no other extends across the end of a whole character
pub seam_past : (s : List ℕ) (i j : ℕ) → CrossesNoCharacter s i → WholeCharacter s i j → CrossesNoCharacter s j
seam_past s i j h w a b v low high =
    let f = character_fits s i j w in
    ⊎_elim
    (λ e. let same = same_end s i j b w (subst (λ x. WholeCharacter s x b) e v) in omega arith)
    (λ ne. ⊎_elim (λ lt. h a b v lt (omega arith)) (λ ge. no_start_inside s i j a b w v (omega arith) low) (cases_lt a i))
    (cases_eq a i)

-- bytes from a seam on, at which no whole character starts, are uncovered, and end at a seam
pub uncovered_run : (s : List ℕ) (i : ℕ) (xs : List ℕ) → CrossesNoCharacter s i → ((a b : ℕ) → i ≤ a → a < i + length xs → WholeCharacter s a b → ⊥) → Uncovered s i xs × CrossesNoCharacter s (i + length xs)
uncovered_run s i xs h none = (
  λ k low high c. let from = c.from in let below = c.below in ⊎_elim (λ lt. h c.start c.end c.whole lt (omega arith)) (λ ge. none c.start c.end ge (omega arith) c.whole) (cases_lt c.start i),
  λ a b w low high. ⊎_elim (λ lt. h a b w lt (omega arith)) (λ ge. none a b ge low w) (cases_lt a i),
)

-- a whole character of a part of s is one of s
pub whole_within : (s x m y : List ℕ) (a b : ℕ) → s ≡ x ++ (m ++ y) → WholeCharacter m a b → WholeCharacter s (length x + a) (length x + b)
whole_within s x m y a b e w =
    let p = w.occurs.index in
    let q = w.end in
    record {
      char = w.char;
      scalar = w.scalar;
      occurs = record { before = x ++ w.occurs.before; after = w.occurs.after ++ y; joined = e ∙ ap (λ z. x ++ (z ++ y)) w.occurs.joined ∙ simp append_assoc; index = omega (arith, length-append x w.occurs.before) };
      end = omega arith;
    }

pub covered_within : (s x m y : List ℕ) (k : ℕ) → s ≡ x ++ (m ++ y) → IsCovered m k → IsCovered s (length x + k)
covered_within s x m y k e c =
    let from = c.from in
    let below = c.below in
    record { start = length x + c.start; end = length x + c.end; whole = whole_within s x m y c.start c.end e c.whole; from = omega arith; below = omega arith }

-- and after a seam the bytes of s that are in whole characters are so in the rest, too
pub covered_after : (s x r : List ℕ) (k : ℕ) → s ≡ x ++ r → CrossesNoCharacter s (length x) → length x ≤ k → IsCovered s k → IsCovered r (k - length x)
covered_after s x r k e h low c =
    let from = c.from in
    let below = c.below in
    ⊎_elim
    (λ lt. absurd (h c.start c.end c.whole lt (omega arith)))
    (λ ge. record { start = c.start - length x; end = c.end - length x; whole = subst (λ y. WholeCharacter y (c.start - length x) (c.end - length x)) (ap (drop (length x)) e ∙ drop-append_seam x r) (in_rest s c.start c.end (length x) c.whole ge); from = omega arith; below = omega arith })
    (cases_lt c.start (length x))

-- the first byte of a form is below 256
first_byte : (b : ℕ) (bs xs rest : List ℕ) → AllByRecursion IsByte xs → 0 < length xs → b ∷ bs ≡ xs ++ rest → IsByte b
first_byte b bs [] rest h some e = absurd (omega arith)
first_byte b bs (x ∷ xs) rest h some e = let q : x ≡ b = cc in subst IsByte q h.0

-- a whole character starts at the start, or none does
prefix_or_none : (s : List ℕ) → ((j : ℕ) × WholeCharacter s 0 j) ⊎ ((j : ℕ) → WholeCharacter s 0 j → ⊥)
prefix_or_none [] = inr (none_in_none [] refl)
prefix_or_none (b ∷ bs) =
    ⊎_elim (λ lt. by lt (first_item false b bs) refl)
    (λ ge. inr (λ j w. let f = first_byte b bs (encode w.char) w.occurs.after (form_bytes w.char (scalar_point w.char w.scalar)) (form_bounds w.char).0 (begins_at (b ∷ bs) 0 j w) in omega arith))
    (cases_lt b 256)
  where
    by : b < 256 → (r : Result ℕ EncodingError) → first_item false b bs ≡ r → ((j : ℕ) × WholeCharacter (b ∷ bs) 0 j) ⊎ ((j : ℕ) → WholeCharacter (b ∷ bs) 0 j → ⊥)
    by lt (Ok c) e =
        ⊎_elim (λ t. inr (none_at_other b c bs e (λ s. scalar_no_surrogate c s t)))
        (λ f. let p = split_code_point b c bs lt e in inl (0 + length (encode c), whole_at (b ∷ bs) 0 c p.0 (omega arith) (is_scalar c p.1 f) p.2))
        (cases_Bool (is_surrogate c))
    by lt (Err f) e = inr (none_at_fault b f bs e)

-- the same at an index
start_or_none : (s : List ℕ) (i : ℕ) → ((j : ℕ) × WholeCharacter s i j) ⊎ ((j : ℕ) → WholeCharacter s i j → ⊥)
start_or_none s i =
    ⊎_elim
    (λ past. inr (none_past s i (omega arith)))
    (λ le. ⊎_elim (λ h. let w = h.1 in inl (i + length (encode w.char), whole_at s i w.char w.occurs.after le w.scalar (begins_at (drop i s) 0 h.0 w))) (λ h. inr (none_at s i (none_begins (drop i s) h))) (prefix_or_none (drop i s)))
    (cases_lt (length s) i)

-- a byte is in no whole character, or in one
pub uncovered_or_covered : (s : List ℕ) (k : ℕ) → ¬ (IsCovered s k) ⊎ IsCovered s k
uncovered_or_covered s k = ⊎_elim inr (λ h. inl (λ c. let f = character_fits s c.start c.end c.whole in let below = c.below in h c.start c.end c.whole c.from (omega arith) c.below)) (from_below 4)
  where
    -- one that starts less than n bytes before k covers it, or none does
    from_below : (n : ℕ) → IsCovered s k ⊎ ((a b : ℕ) → WholeCharacter s a b → a ≤ k → k < a + n → k < b → ⊥)
    from_below zero = inr (λ a b w low high below. omega arith)
    from_below (suc n) =
        ⊎_elim inl
        (λ h. ⊎_elim
        (λ lt. inr (λ a b w low high below. h a b w low (omega arith) below))
        (λ ge. ⊎_elim
        (λ w. ⊎_elim
        (λ below. inl (record { start = k - n; end = w.0; whole = w.1; from = omega arith; below = below }))
        (λ past. inr (λ a b v low high below. ⊎_elim (λ e. let same = same_end s (k - n) b w.0 (subst (λ x. WholeCharacter s x b) e v) w.1 in omega arith) (λ ne. h a b v low (omega arith) below) (cases_eq a (k - n))))
        (cases_lt k w.0))
        (λ none. inr (λ a b v low high below. ⊎_elim (λ e. none b (subst (λ x. WholeCharacter s x b) e v)) (λ ne. h a b v low (omega arith) below) (cases_eq a (k - n))))
        (start_or_none s (k - n)))
        (cases_lt k n))
        (from_below n)

-- the bytes of code points
abbrev pub Forms : List ℕ → List ℕ
Forms cs = flat_map encode cs

-- what holds of the bytes of each code point after a seam, which end at a seam, holds of those of a list
module _ (s : List ℕ) (P Q : ℕ → Type 0)
    (one : (x r : List ℕ) (i c : ℕ) → s ≡ x ++ (encode c ++ r) → length x ≡ i → Q c → CrossesNoCharacter s i → Over P i (encode c) × CrossesNoCharacter s (i + length (encode c))) where
  pub forms_over : (x r : List ℕ) (i : ℕ) (cs : List ℕ) → s ≡ x ++ (Forms cs ++ r) → length x ≡ i → AllByRecursion Q cs → CrossesNoCharacter s i → Over P i (Forms cs) × CrossesNoCharacter s (i + length (Forms cs))
  forms_over x r i [] e l h k = let z : i ≡ i + 0 = omega arith in (over_none P i, subst (CrossesNoCharacter s) z k)
  forms_over x r i (c ∷ cs) e l h k =
      let f : s ≡ x ++ (encode c ++ (Forms cs ++ r)) = e ∙ ap (λ y. x ++ y) (append_assoc (encode c) (Forms cs) r) in
      let first = one x (Forms cs ++ r) i c f l h.0 k in
      let more = forms_over (x ++ encode c) r (i + length (encode c)) cs (f ∙ sym (append_assoc x (encode c) (Forms cs ++ r))) (length-append x (encode c) ∙ ap (λ n. n + length (encode c)) l) h.1 first.1 in
      let z : i + length (encode c) + length (Forms cs) ≡ i + length (encode c ++ Forms cs) = omega (arith, length-append (encode c) (Forms cs)) in
      (over_both P i (encode c) (Forms cs) first.0 more.0, subst (CrossesNoCharacter s) z more.1)

-- the bytes of a scalar are in a whole character
pub scalar_covered : (s x r : List ℕ) (i c : ℕ) → s ≡ x ++ (encode c ++ r) → length x ≡ i → IsScalar c → CrossesNoCharacter s i → Covered s i (encode c) × CrossesNoCharacter s (i + length (encode c))
scalar_covered s x r i c e l h k =
    let w : WholeCharacter s i (i + length (encode c)) = record { char = c; scalar = h; occurs = record { before = x; after = r; joined = e; index = l }; end = refl } in
    (λ j low high. record { start = i; end = i + length (encode c); whole = w; from = low; below = high }, seam_past s i (i + length (encode c)) k w)

-- those of a text are in whole characters, and a text after a seam ends at one
pub scalars_are : (cs : List ℕ) → all_scalars cs ≡ true → AllByRecursion IsScalar cs
scalars_are [] e = tt
scalars_are (c ∷ cs) e = let both = and_parts (scalar c) _ e in (both.0, scalars_are cs both.1)

pub text_covered : (s x t r : List ℕ) → s ≡ x ++ (t ++ r) → IsUtf8 t → CrossesNoCharacter s (length x) → Covered s (length x) t × CrossesNoCharacter s (length x + length t)
text_covered s x t r e u k =
    let f : Forms u.0 ≡ t = forms_encode u.0 ∙ u.1.1 in
    subst (λ y. Covered s (length x) y × CrossesNoCharacter s (length x + length y)) f (forms_over s (IsCovered s) IsScalar (scalar_covered s) x r (length x) u.0 (e ∙ ap (λ y. x ++ (y ++ r)) (sym f)) refl (scalars_are u.0 u.1.0) k)

-- and uncovered bytes at the start end at a seam
pub seam_after_uncovered : (s p : List ℕ) → Uncovered s 0 p → CrossesNoCharacter s (length p)
seam_after_uncovered s p h a b w low high = grind (arith, nat_tests, common_steps, character_fits)
