-- Characters that are unchanged, between suspects.
use Rattle.os_quote.proofs.Common.{◌≡◌, ⊎_elim, ℕ, suc, ◌+◌, ◌-◌, ◌<◌, ◌≤◌, true, false, List, [], ◌∷◌, ◌++◌, length, take, drop, get_or, sym, ap, ◌∙◌, subst, arith, append_assoc, take-append-drop, length-append, length-drop, get_or-drop, IsScalar, encode_utf8, AllByRecursion, IsUtf8, IsCharBoundary, chars, all_scalars, encode_utf8_all, and_parts, cases_lt, append_cancel_right, length-take-le, drop_at, take_all, IsCharBoundary-at_seam, IsCharBoundary-end, IsUtf8-between, IsUtf8-take, IsUtf8-drop, IsUtf8-past_char, chars-append, chars_past_char, encodes-chars, scalars-chars, scalar, encode, form_ascii, form_two, form_three, form_past, form_encode, is_suspect, IsUnchanged, AreUnchanged, stays_on_line, AllClear, IsNextSuspect}
use Rattle.std.proofs.Math.Seq.{take-add}
use Rattle.os_quote.proofs.lemmas.{Escapes.all-append, Texts.scalar_below, SuspectTables.one_occurs, SuspectTables.two_occurs, SuspectTables.three_occurs, SuspectTables.four_occurs, SuspectTables.lead_from}

-- no byte is a suspect, where others follow
abbrev ClearIn : List ℕ → List ℕ → Type 0
ClearIn [] rest = Unit {0}
ClearIn (x ∷ xs) rest = (is_suspect x (get_or (xs ++ rest) 0 0) (get_or (xs ++ rest) 1 0) ≡ false) × (((get_or (xs ++ rest) 0 0 < 256) × (get_or (xs ++ rest) 1 0 < 256)) × ClearIn xs rest)

clear_in : (xs rest : List ℕ) → ((k : ℕ) → get_or (xs ++ rest) k 0 < 256) → ((k : ℕ) → k < length xs → is_suspect (get_or (xs ++ rest) k 0) (get_or (xs ++ rest) (suc k) 0) (get_or (xs ++ rest) (suc (suc k)) 0) ≡ false) → ClearIn xs rest
clear_in [] rest b h = tt
clear_in (x ∷ xs) rest b h = (h 0 (omega arith), ((b 1, b 2), clear_in xs rest (λ k. b (suc k)) (λ k l. h (suc k) (omega (arith, l)))))

clear_after : (xs ys rest : List ℕ) → ClearIn (xs ++ ys) rest → ClearIn ys rest
clear_after [] ys rest h = h
clear_after (x ∷ xs) ys rest h = clear_after xs ys rest h.1.1

character_unchanged : (c : ℕ) (more rest : List ℕ) → IsScalar c → ClearIn (encode_utf8 c ++ more) rest → IsUnchanged stays_on_line c
character_unchanged c more rest s h =
    ⊎_elim
    (λ (a : c < 0x80). let f = by (form_ascii c a) in one_occurs c (get_or (more ++ rest) 0 0) (get_or (more ++ rest) 1 0) a f.1.0.0 f.1.0.1 f.0)
    (λ (l : 0x80 ≤ c).
    ⊎_elim
    (λ (a : c < 0x800). let f = by (form_two c l a) in two_occurs c (get_or (more ++ rest) 0 0) l a f.1.0.1 f.0)
    (λ (m : 0x800 ≤ c).
    ⊎_elim
    (λ (a : c < 0x1_0000). three_occurs c m a (by (form_three c m a)).0)
    (λ (n : 0x1_0000 ≤ c). four_occurs c n (scalar_below c s) (by (form_past c n)).0)
    (cases_lt c 0x1_0000))
    (cases_lt c 0x800))
    (cases_lt c 0x80)
  where
    by : {bs : List ℕ} → encode c ≡ bs → ClearIn (bs ++ more) rest
    by e = subst (λ x. ClearIn (x ++ more) rest) (sym (form_encode c) ∙ e) h

characters_unchanged : (cs rest : List ℕ) → all_scalars cs ≡ true → ClearIn (encode_utf8_all cs) rest → AllByRecursion (IsUnchanged stays_on_line) cs
characters_unchanged [] rest s h = tt
characters_unchanged (c ∷ cs) rest s h =
    let both = and_parts (scalar c) _ s in
    (character_unchanged c (encode_utf8_all cs) rest both.0 h, characters_unchanged cs rest both.1 (clear_after (encode_utf8 c) (encode_utf8_all cs) rest h))

-- each is unchanged up to an index, and none is a suspect up to another
pub unchanged_to : (t : List ℕ) (at i : ℕ) → ((k : ℕ) → get_or t k 0 < 256) → IsUtf8 t → IsCharBoundary t at → IsCharBoundary t i → at ≤ i → AreUnchanged stays_on_line (take at t) → AllClear t at i → AreUnchanged stays_on_line (take i t)
unchanged_to t at i bytes u b d low unchanged clear =
    let whole = sym (take-append-drop (i - at) (drop at t)) in
    let same : at + (i - at) ≡ i = omega (arith, low) in
    subst (AreUnchanged stays_on_line) (ap (λ n. take n t) same)
    (subst (AreUnchanged stays_on_line) (sym (take-add at (i - at) t))
    (subst (AllByRecursion (IsUnchanged stays_on_line)) (sym (chars-append (take at t) mid (IsUtf8-take t at u b))) (all-append (IsUnchanged stays_on_line) (chars (take at t)) (chars mid) unchanged
    (characters_unchanged (chars mid) rest (scalars-chars mid text) (subst (λ x. ClearIn x rest) (sym (encodes-chars mid text)) (clear_in mid rest (λ k. subst (λ x. get_or x k 0 < 256) whole (rw (get_or-drop at t k 0) (bytes (at + k)))) (λ k l. subst (λ x. is_suspect (get_or x k 0) (get_or x (suc k) 0) (get_or x (suc (suc k)) 0) ≡ false) whole (from_at k l))))))))
  where
    mid : List ℕ
    mid = take (i - at) (drop at t)

    rest : List ℕ
    rest = drop (i - at) (drop at t)

    text : IsUtf8 mid
    text = IsUtf8-between t at i u low b d

    many : length mid ≡ i - at
    many = length-take-le (i - at) (drop at t) (omega (arith, length-drop at t, d.0))

    from_at : (k : ℕ) → k < length mid → is_suspect (get_or (drop at t) k 0) (get_or (drop at t) (suc k) 0) (get_or (drop at t) (suc (suc k)) 0) ≡ false
    from_at k l =
        let second : 1 + (at + k) ≡ at + suc k = omega arith in
        let third : 2 + (at + k) ≡ at + suc (suc k) = omega arith in
        rw (get_or-drop at t k 0, get_or-drop at t (suc k) 0, get_or-drop at t (suc (suc k)) 0)
        (subst (λ n. is_suspect (get_or t (at + k) 0) (get_or t n 0) (get_or t (at + suc (suc k)) 0) ≡ false) second
        (subst (λ n. is_suspect (get_or t (at + k) 0) (get_or t (1 + (at + k)) 0) (get_or t n 0) ≡ false) third
        (clear (at + k) (omega arith) (omega (arith, l, many, low)))))

pub all_unchanged : (t : List ℕ) (at : ℕ) → ((k : ℕ) → get_or t k 0 < 256) → IsUtf8 t → IsCharBoundary t at → AreUnchanged stays_on_line (take at t) → AllClear t at (length t) → AreUnchanged stays_on_line t
all_unchanged t at bytes u b unchanged clear = subst (AreUnchanged stays_on_line) (take_all (length t) t (omega arith)) (unchanged_to t at (length t) bytes u b (IsCharBoundary-end t) b.0 unchanged clear)

-- a suspect begins a character
pub suspect_begins : (t : List ℕ) (from at : ℕ) → IsNextSuspect t from at → IsCharBoundary t at
suspect_begins t from at s = (omega (arith, s.within), λ _ high. lead_from (get_or t at 0) (get_or t (1 + at) 0) (get_or t (2 + at) 0) s.suspect high)

-- each is unchanged up to a character that is, and so up to what follows it
pub unchanged_after : (t rest : List ℕ) (i c at : ℕ) → IsUtf8 t → IsCharBoundary t i → drop i t ≡ encode_utf8 c ++ rest → AreUnchanged stays_on_line (take i t) → IsUnchanged stays_on_line c → at ≡ length t - length rest → IsCharBoundary t at × AreUnchanged stays_on_line (take at t)
unchanged_after t rest i c at u b e unchanged s is = (bound, subst (AllByRecursion (IsUnchanged stays_on_line)) (sym same) (all-append (IsUnchanged stays_on_line) (chars (take i t)) (c ∷ []) unchanged (s, tt)))
  where
    text : IsUtf8 (drop i t)
    text = IsUtf8-drop t i u b

    size : length (drop i t) ≡ length (encode_utf8 c) + length rest
    size = ap length e ∙ length-append (encode_utf8 c) rest

    lengths : length (take i t) ≡ i
    lengths = length-take-le i t b.0

    joined : t ≡ (take i t ++ encode_utf8 c) ++ rest
    joined = sym (take-append-drop i t) ∙ ap (λ x. take i t ++ x) e ∙ sym (append_assoc (take i t) (encode_utf8 c) rest)

    reached : at ≡ length (take i t ++ encode_utf8 c)
    reached = omega (arith, is, size, lengths, length-drop i t, length-append (take i t) (encode_utf8 c), b.0)

    bound : IsCharBoundary t at
    bound = subst (IsCharBoundary t) (sym reached) (IsCharBoundary-at_seam t (take i t ++ encode_utf8 c) rest joined (IsUtf8-past_char (drop i t) rest c text e))

    left : drop at t ≡ rest
    left = ap (drop at) joined ∙ drop_at (take i t ++ encode_utf8 c) rest at (sym reached)

    same : chars (take at t) ≡ chars (take i t) ++ c ∷ []
    same = append_cancel_right (chars (take at t)) (chars (take i t) ++ c ∷ []) (chars rest)
        (ap (λ x. chars (take at t) ++ chars x) (sym left)
        ∙ sym (chars-append (take at t) (drop at t) (IsUtf8-take t at u bound))
        ∙ ap chars (take-append-drop at t ∙ sym (take-append-drop i t))
        ∙ chars-append (take i t) (drop i t) (IsUtf8-take t i u b)
        ∙ ap (λ x. chars (take i t) ++ x) (chars_past_char (drop i t) rest c text e)
        ∙ sym (append_assoc (chars (take i t)) (c ∷ []) (chars rest)))
