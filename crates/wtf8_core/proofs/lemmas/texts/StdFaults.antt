-- std's answer on bytes that aren't UTF-8, by the definitions.
use Rattle.wtf8_core.proofs.Common.{common_steps, ◌≡◌, ⊎_elim, ℕ, suc, ◌+◌, ◌<◌, ◌≤◌, List, [], ◌∷◌, ◌++◌, length, take, drop, get_or, length-append, length-drop, append_assoc, take-append-drop, Option, Some, sym, ap, ◌∙◌, subst, arith, if◌then◌else◌, IsScalar, is_in_range, IsInRange, MatchOption, IsUtf8, IsValidUpTo, utf8_error_len, second_byte_min, second_byte_max, cond_both, cases_lt, nat_tests, take-take, get_or_append_left, IsUtf8-append, IsUtf8-encode, take-add, take-append_seam, IsContinuation, needed_continuations, encode, sequence_value, IsPrefixOfCharacter, IsProperPrefix, IsIllFormed, IsUtf8Fault}
use Rattle.wtf8_core.proofs.lemmas.{characters.AtIndices.NoChar, characters.Overlaps.form_after, forms.Shapes.form_ascii, forms.Shapes.form_bounds, forms.ByStd.form_encode, forms.Ranges.in_range-true, forms.Ranges.in_range-false}

-- what std answers of the rest r
abbrev Part : List ℕ → Option ℕ → Type 0
Part r len = MatchOption len (IsProperPrefix r) (IsIllFormed r)

-- b begins a form of two bytes or more, and x may follow it (the table of RFC 3629, section 4)
abbrev pub First : ℕ → Type 0
First b = IsInRange 0xC2 0xF4 b

abbrev pub Second : ℕ → ℕ → Type 0
Second b x = IsInRange (second_byte_min b) (second_byte_max b) x

pub lead_of : (c : ℕ) → IsScalar c → 0x80 ≤ c → First (get_or (encode c) 0 0)
unfolding encode
lead_of c s h = grind (arith, nat_tests, s)

pub second_of : (c : ℕ) → IsScalar c → 0x80 ≤ c → Second (get_or (encode c) 0 0) (get_or (encode c) 1 0)
unfolding encode
second_of c s h = grind (arith, nat_tests, s)

-- b with as many of three continuations as it needs is the form of a scalar
abbrev pub Filled : ℕ → ℕ → ℕ → ℕ → List ℕ
Filled b x y z = b ∷ take (needed_continuations b) (x ∷ y ∷ z ∷ [])

abbrev pub filled_value : ℕ → ℕ → ℕ → ℕ → ℕ
filled_value b x y z = sequence_value b (take (needed_continuations b) (x ∷ y ∷ z ∷ []))

pub filled : (b x y z : ℕ) → First b → Second b x → IsContinuation y → IsContinuation z → IsScalar (filled_value b x y z) × (encode (filled_value b x y z) ≡ Filled b x y z)
unfolding encode
filled b x y z l s j k = (grind (arith, nat_tests, s), grind (arith, nat_tests, s))

-- so bytes that begin with no character don't begin with it
not_filled : (b x y z : ℕ) (r rest : List ℕ) → First b → Second b x → IsContinuation y → IsContinuation z → NoChar r → r ≡ Filled b x y z ++ rest → ⊥
not_filled b x y z r rest l s j k n e =
    let w = filled b x y z l s j k in
    n _ rest w.0 (e ∙ ap (λ x. x ++ rest) (sym w.1))

-- 80 is a continuation, the least
pub least_continuation : IsContinuation 0x80
least_continuation = (omega arith, omega arith)

-- the lead needs more than the continuations that are there
needs_second : (b x : ℕ) (t : List ℕ) → First b → Second b x → NoChar (b ∷ x ∷ t) → 0xE0 ≤ b
needs_second b x t l s n = ⊎_elim (λ h. absurd (not_filled b x 0x80 0x80 _ t l s least_continuation least_continuation n (grind (arith, nat_tests)))) (λ h. h) (cases_lt b 0xE0)

needs_third : (b x y : ℕ) (t : List ℕ) → First b → Second b x → IsContinuation y → NoChar (b ∷ x ∷ y ∷ t) → 0xF0 ≤ b
needs_third b x y t l s k n =
    let low = needs_second b x (y ∷ t) l s n in
    ⊎_elim (λ h. absurd (not_filled b x y 0x80 _ t l s k least_continuation n (grind (arith, nat_tests)))) (λ h. h) (cases_lt b 0xF0)

-- a prefix of a form, with more after it
prefix_of : (xs : List ℕ) (c k : ℕ) → IsScalar c × (encode c ≡ xs) → k < length xs → IsProperPrefix (take k xs)
prefix_of xs c k w h = record { prefix = record { char = c; scalar = w.0; rest = drop k xs; is = w.1 ∙ sym (take-append-drop k xs) }; proper = omega (arith, length-drop k xs) }

two_open : (b x : ℕ) → First b → Second b x → 0xE0 ≤ b → IsProperPrefix (b ∷ x ∷ [])
two_open b x l s h =
    let e : take 2 (Filled b x 0x80 0x80) ≡ b ∷ x ∷ [] = grind (arith, nat_tests) in
    subst IsProperPrefix e (prefix_of (Filled b x 0x80 0x80) _ 2 (filled b x 0x80 0x80 l s least_continuation least_continuation) (grind (arith, nat_tests)))

three_open : (b x y : ℕ) → First b → Second b x → IsContinuation y → 0xF0 ≤ b → IsProperPrefix (b ∷ x ∷ y ∷ [])
three_open b x y l s k h =
    let e : take 3 (Filled b x y 0x80) ≡ b ∷ x ∷ y ∷ [] = grind (arith, nat_tests) in
    subst IsProperPrefix e (prefix_of (Filled b x y 0x80) _ 3 (filled b x y 0x80 l s k least_continuation) (grind (arith, nat_tests)))

-- a prefix of a prefix is a prefix
cut_prefix : (k : ℕ) (r : List ℕ) → IsPrefixOfCharacter r → IsPrefixOfCharacter (take k r)
cut_prefix k r w = record { char = w.char; scalar = w.scalar; rest = drop k r ++ w.rest; is = w.is ∙ ap (λ x. x ++ w.rest) (sym (take-append-drop k r)) ∙ append_assoc (take k r) (drop k r) w.rest }

-- k bytes are at fault: they are a prefix of a form, and one byte more is none
ill : (r : List ℕ) (k : ℕ) → 0 < k → k ≤ length r → (1 < k → IsPrefixOfCharacter (take k r)) → (IsPrefixOfCharacter (take (suc k) r) → ⊥) → IsIllFormed r k
ill r k some within prefix none = record {
  closed = λ w. none (cut_prefix (suc k) r w.prefix);
  some = some;
  within = within;
  prefix = prefix;
  longest = λ m h l w. none (subst IsPrefixOfCharacter (take-take (suc k) m r (omega arith)) (cut_prefix (suc k) (take m r) w));
}

-- where no character begins, a prefix is one of a form of two bytes or more
long_prefix : (b : ℕ) (t u : List ℕ) → NoChar (b ∷ t) → (w : IsPrefixOfCharacter (b ∷ u)) → 0x80 ≤ w.char
long_prefix b t u n w = ⊎_elim
    (λ h. let f = form_ascii w.char h in
    let q : b ≡ w.char = cc in
    absurd (n w.char t w.scalar (ap (λ x. x ∷ t) q ∙ ap (λ x. x ++ t) (sym f))))
    (λ h. h)
    (cases_lt w.char 0x80)

-- the bytes after the first one in a prefix of a character are continuations
pub after_prefix : (xs : List ℕ) → IsPrefixOfCharacter xs → (m : ℕ) → 0 < m → m < length xs → IsContinuation (get_or xs m 0)
after_prefix xs w m low high = grind (arith, nat_tests, common_steps, length-append, get_or_append_left, form_after)

-- the part, by the first byte, by the second, and by the third
by_first : (b : ℕ) (t : List ℕ) (o : Option ℕ) → NoChar (b ∷ t) → (First b → Part (b ∷ t) o) → Part (b ∷ t) (if is_in_range 0xC2 0xF4 b then o else Some 1)
by_first b t o n h = cond_both (is_in_range 0xC2 0xF4 b) _ _ (Part (b ∷ t)) (λ e. h (in_range-true 0xC2 0xF4 b e))
    (λ e. ill (b ∷ t) 1 (omega arith) (omega arith) (λ k. absurd (omega arith))
    (λ w. in_range-false 0xC2 0xF4 b e (subst (λ l. First (get_or l 0 0)) w.is (lead_of w.char w.scalar (long_prefix b t (take 1 t) n w)))))

by_second : (b x : ℕ) (t : List ℕ) (o : Option ℕ) → NoChar (b ∷ x ∷ t) → (Second b x → Part (b ∷ x ∷ t) o) → Part (b ∷ x ∷ t) (if is_in_range (second_byte_min b) (second_byte_max b) x then o else Some 1)
by_second b x t o n h = cond_both (is_in_range (second_byte_min b) (second_byte_max b) x) _ _ (Part (b ∷ x ∷ t)) (λ e. h (in_range-true _ _ x e))
    (λ e. ill (b ∷ x ∷ t) 1 (omega arith) (omega arith) (λ k. absurd (omega arith))
    (λ w. in_range-false _ _ x e (subst (λ l. Second (get_or l 0 0) (get_or l 1 0)) w.is (second_of w.char w.scalar (long_prefix b (x ∷ t) (x ∷ []) n w)))))

by_third : (b x y : ℕ) (t : List ℕ) (o : Option ℕ) → IsProperPrefix (b ∷ x ∷ []) → (IsContinuation y → Part (b ∷ x ∷ y ∷ t) o) → Part (b ∷ x ∷ y ∷ t) (if is_in_range 0x80 0xBF y then o else Some 2)
by_third b x y t o f h = cond_both (is_in_range 0x80 0xBF y) _ _ (Part (b ∷ x ∷ y ∷ t)) (λ e. h (in_range-true 0x80 0xBF y e))
    (λ e. ill (b ∷ x ∷ y ∷ t) 2 (omega arith) (omega arith) (λ _. f.prefix) (λ w. in_range-false 0x80 0xBF y e (after_prefix (b ∷ x ∷ y ∷ []) w 2 (omega arith) (omega arith))))

-- std's answer of four bytes or more
pub len_of_four : (b x y z : ℕ) (t : List ℕ) → utf8_error_len (b ∷ x ∷ y ∷ z ∷ t)
    ≡ (if is_in_range 0xC2 0xF4 b then (if is_in_range (second_byte_min b) (second_byte_max b) x then (if is_in_range 0x80 0xBF y then Some 3 else Some 2) else Some 1) else Some 1)
unfolding utf8_error_len
len_of_four b x y z t = grind (arith, nat_tests)

-- the part of any bytes where no character begins
part : (r : List ℕ) → 0 < length r → NoChar r → Part r (utf8_error_len r)
unfolding utf8_error_len
part [] h n = absurd (omega arith)
part (b ∷ []) h n = by_first b [] _ n (λ l. prefix_of (Filled b (second_byte_min b) 0x80 0x80) _ 1 (filled b (second_byte_min b) 0x80 0x80 l (grind (arith, nat_tests)) least_continuation least_continuation) (grind (arith, nat_tests)))
part (b ∷ x ∷ []) h n = by_first b _ _ n (λ l. by_second b x _ _ n (λ s. two_open b x l s (needs_second b x [] l s n)))
part (b ∷ x ∷ y ∷ []) h n = by_first b _ _ n (λ l. by_second b x _ _ n (λ s. by_third b x y _ _ (two_open b x l s (needs_second b x _ l s n)) (λ k. three_open b x y l s k (needs_third b x y [] l s k n))))
part (b ∷ x ∷ y ∷ z ∷ t) h n = subst (Part (b ∷ x ∷ y ∷ z ∷ t)) (sym (len_of_four b x y z t))
    (by_first b _ _ n (λ l. by_second b x _ _ n (λ s. by_third b x y _ _ (two_open b x l s (needs_second b x _ l s n)) (λ k.
    let low = needs_third b x y (z ∷ t) l s k n in
    ill (b ∷ x ∷ y ∷ z ∷ t) 3 (omega arith) (omega arith) (λ _. (three_open b x y l s k low).prefix)
    (λ w. not_filled b x y z _ t l s k (after_prefix (b ∷ x ∷ y ∷ z ∷ []) w 3 (omega arith) (omega arith)) n (grind (arith, nat_tests)))))))

-- no character begins what follows the longest prefix
pub no_char : (bytes : List ℕ) (n : ℕ) → IsValidUpTo bytes n → NoChar (drop n bytes)
no_char bytes n v c rest s e =
    let p = form_bounds c in
    let f : take (n + length (encode c)) bytes ≡ take n bytes ++ encode c = take-add n (length (encode c)) bytes ∙ ap (λ x. take n bytes ++ take (length (encode c)) x) e ∙ ap (λ x. take n bytes ++ x) (take-append_seam (encode c) rest) in
    v.longest (n + length (encode c)) (omega arith) (subst IsUtf8 (sym f) (IsUtf8-append (take n bytes) (encode c) v.front (subst IsUtf8 (sym (form_encode c)) (IsUtf8-encode c s))))

-- std's answer is the fault
pub fault_is : (bytes : List ℕ) (n : ℕ) (len : Option ℕ) → IsValidUpTo bytes n → len ≡ utf8_error_len (drop n bytes) → IsUtf8Fault bytes n len
fault_is bytes n len v e = record {
  valid = v;
  part = subst (Part (drop n bytes)) (sym e) (part (drop n bytes) (let s = v.short in omega (arith, length-drop n bytes)) (no_char bytes n v));
}

-- the same, as code has it
pub fault_of : (bytes : List ℕ) (n m : ℕ) (len o : Option ℕ) → m ≡ n → IsValidUpTo bytes n → o ≡ utf8_error_len (drop n bytes) → len ≡ o → IsUtf8Fault bytes m len
fault_of bytes n m len o e v f l = subst (λ k. IsUtf8Fault bytes k len) (sym e) (fault_is bytes n len v (l ∙ f))
