-- Whole characters don't overlap, so a boundary stays one in a part that ends or starts at a boundary.
use Rattle.wtf8_core.proofs.Common.{◌≡◌, ◌⊎◌, inl, inr, ⊎_elim, ℕ, zero, suc, ◌+◌, ◌-◌, ◌<◌, ◌≤◌, List, ◌++◌, length, take, drop, get_or, sym, ap, ◌∙◌, subst, arith, length-drop, take-append-add, cases_lt, cases_eq, drop-drop, drop-take, length-take-le, get_or-drop, get_or_append_left, IsContinuation, encode, WholeCharacter, IsBoundary, All-from_recursion, All-get_or, common_steps, nat_tests}
use Rattle.wtf8_core.proofs.lemmas.{forms.Shapes.form_bounds, forms.Shapes.form_parts, characters.AtIndices.begins_at, characters.AtIndices.whole_at, characters.AtIndices.character_fits, characters.AtIndices.same_end}

-- the bytes of a form after the first are continuations, and the first is none
pub form_after : (c m : ℕ) → 0 < m → m < length (encode c) → IsContinuation (get_or (encode c) m 0)
form_after c zero l h = absurd (omega arith)
form_after c (suc m) l h =
    let p = form_parts c in
    let n : length (encode c) ≡ suc (length p.after) = ap length p.is in
    subst IsContinuation (sym (ap (λ x. get_or x (suc m) 0) p.is)) (All-get_or IsContinuation p.after m 0 (omega arith) (All-from_recursion IsContinuation p.after p.continued))

-- the bytes of a whole character
byte_of : (s : List ℕ) (i j m : ℕ) → (w : WholeCharacter s i j) → m < length (encode w.char) → get_or s (i + m) 0 ≡ get_or (encode w.char) m 0
byte_of s i j m w h =
    sym (get_or-drop i s m 0) ∙ ap (λ x. get_or x m 0) (begins_at s i j w) ∙ get_or_append_left (encode w.char) w.occurs.after 0 m h

-- those after the first are continuations
pub continued : (s : List ℕ) (i j k : ℕ) → WholeCharacter s i j → i < k → k < j → IsContinuation (get_or s k 0)
continued s i j k w low high =
    let m = k - i in
    let e = w.end in
    let b : get_or s (i + m) 0 ≡ get_or (encode w.char) m 0 = byte_of s i j m w (omega arith) in
    let z : i + m ≡ k = omega arith in
    subst (λ n. IsContinuation (get_or s n 0)) z (subst IsContinuation (sym b) (form_after w.char m (omega arith) (omega arith)))

-- so none starts at a continuation
pub no_start : (s : List ℕ) (i j : ℕ) → IsContinuation (get_or s i 0) → WholeCharacter s i j → ⊥
no_start s i j k w =
    let p = form_parts w.char in
    let z : i ≡ i + 0 = omega arith in
    p.begins (subst IsContinuation (ap (λ n. get_or s n 0) z ∙ byte_of s i j 0 w (form_bounds w.char).0 ∙ ap (λ x. get_or x 0 0) p.is) k)

-- no character starts inside another
pub no_start_inside : (s : List ℕ) (i j a b : ℕ) → WholeCharacter s i j → WholeCharacter s a b → i < a → a < j → ⊥
no_start_inside s i j a b w v low high = no_start s a b (continued s i j a w low high) v

-- two whole characters are the same, or one ends before the other starts
pub apart : (s : List ℕ) (i j a b : ℕ) → WholeCharacter s i j → WholeCharacter s a b → ((i ≡ a) × (j ≡ b)) ⊎ ((j ≤ a) ⊎ (b ≤ i))
apart s i j a b w v =
    ⊎_elim (λ lt. inr (⊎_elim (λ k. absurd (no_start_inside s i j a b w v lt k)) (λ k. inl k) (cases_lt a j)))
    (λ ge. ⊎_elim (λ lt. inr (⊎_elim (λ k. absurd (no_start_inside s a b i j v w lt k)) (λ k. inr k) (cases_lt i b)))
    (λ le. let e : i ≡ a = omega arith in inl (e, same_end s i j b w (subst (λ x. WholeCharacter s x b) (sym e) v)))
    (cases_lt a i))
    (cases_lt i a)

-- a boundary is at most the length
pub boundary_within : (b : List ℕ) (i : ℕ) → IsBoundary b i → i ≤ length b
boundary_within b i k = grind (arith, nat_tests, common_steps, character_fits, k.is)

-- a string can't be cut inside a whole character
pub no_boundary_inside : (s : List ℕ) (i j k : ℕ) → WholeCharacter s i j → IsBoundary s k → i < k → k < j → ⊥
no_boundary_inside s i j k w b low high =
    let f = character_fits s i j w in
    ⊎_elim (λ e. omega arith) (⊎_elim (λ e. omega arith) (⊎_elim
    (λ h. no_start_inside s i j k h.0 w h.1 low high)
    (λ h. let g = character_fits s h.0 k h.1 in
    ⊎_elim (λ e. omega (arith, e.1)) (⊎_elim (λ l. omega arith) (λ l. omega arith)) (apart s i j h.0 k w h.1))))
    b.is

-- a whole character of a prefix that ends after it
in_prefix : (s : List ℕ) (a b j : ℕ) → WholeCharacter s a b → b ≤ j → j ≤ length s → WholeCharacter (take j s) a b
in_prefix s a b j w le fits =
    let e = w.end in
    let n = length (encode w.char) + (j - b) in
    let d : drop a (take j s) ≡ encode w.char ++ take (j - b) w.occurs.after =
    ap (λ m. drop a (take m s)) (let z : j ≡ a + n = omega arith in z) ∙ drop-take a n s ∙ ap (take n) (begins_at s a b w) ∙ take-append-add (encode w.char) w.occurs.after (j - b) in
    subst (WholeCharacter (take j s) a) (sym e) (whole_at (take j s) a w.char (take (j - b) w.occurs.after) (omega (arith, length-take-le j s fits)) w.scalar d)

-- the same for what follows an index
pub in_rest : (s : List ℕ) (a b j : ℕ) → WholeCharacter s a b → j ≤ a → WholeCharacter (drop j s) (a - j) (b - j)
in_rest s a b j w le = grind (arith, nat_tests, common_steps, character_fits, begins_at, whole_at, drop-drop, length-drop, w.end, w.scalar)

-- a boundary is also one of a prefix that ends at a boundary
pub boundary_in_prefix : (s : List ℕ) (i j : ℕ) → i ≤ j → IsBoundary s i → IsBoundary s j → IsBoundary (take j s) i
boundary_in_prefix s i j le b c =
    let fits = boundary_within s j c in
    let size : length (take j s) ≡ j = length-take-le j s fits in
    record {
      is = ⊎_elim (λ e. inl e) (⊎_elim (λ e. inr (inl (omega arith))) (⊎_elim
          (λ h. ⊎_elim
          (λ e. inr (inl (omega arith)))
          (λ ne. ⊎_elim (λ lt. absurd (no_boundary_inside s i h.0 j h.1 c (omega arith) lt)) (λ ge. inr (inr (inl (h.0, in_prefix s i h.0 j h.1 ge fits)))) (cases_lt j h.0))
          (cases_eq i j))
          (λ h. inr (inr (inr (h.0, in_prefix s h.0 i j h.1 le fits))))))
          b.is;
    }

-- and of a rest that starts at one
pub boundary_in_rest : (s : List ℕ) (i j : ℕ) → i ≤ j → IsBoundary s i → IsBoundary s j → IsBoundary (drop i s) (j - i)
boundary_in_rest s i j le b c =
    let fits = boundary_within s j c in
    let size : length (drop i s) ≡ length s - i = length-drop i s in
    record {
      is = ⊎_elim (λ e. inl (omega arith)) (⊎_elim (λ e. inr (inl (omega arith))) (⊎_elim
          (λ h. inr (inr (inl (h.0 - i, in_rest s j h.0 i h.1 le))))
          (λ h. ⊎_elim
          (λ e. inl (omega arith))
          (λ ne. ⊎_elim (λ lt. absurd (no_boundary_inside s h.0 j i h.1 b lt (omega arith))) (λ ge. inr (inr (inr (h.0 - i, in_rest s h.0 j i h.1 ge)))) (cases_lt h.0 i))
          (cases_eq i j))))
          c.is;
    }
