-- Bytes that keep to the pattern are forms of code points.
use Rattle.wtf8_core.proofs.Common.{common_steps, ◌≡◌, inl, inr, ⊎_elim, ℕ, zero, suc, ◌+◌, ◌/◌, ◌%◌, ◌<◌, ◌≤◌, List, [], ◌∷◌, ◌++◌, length, get_or, refl, sym, ap, ◌∙◌, subst, arith, nat_tests, cases_lt, AllByRecursion, flat_map, IsScalar, IsContinuation, IsHigh, IsSurrogate, IsCodePoint, encode, Encodes, MayPrecede, last_or, needed_continuations, least_value, IsWholeSequence, sequence_value, MayFollow, MayFollowAll, EachMayFollow, Steps, IsBetweenCodePoints}
use Rattle.wtf8_core.proofs.lemmas.{characters.AtIndices.is_scalar, forms.Ranges.low_surrogate, forms.Ranges.not_in_range, forms.Shapes.form_ascii, forms.Shapes.form_bounds, forms.Shapes.form_surrogate, forms.Shapes.shape_is_form}
use Rattle.wtf8_core.specs.declared.vectors.Encoding.{Encoding, TheVariants.Utf8}

-- the bytes are the form of the code point c
record IsFormOf (c : ℕ) (bytes : List ℕ) : Type 0 where
  code_point : IsCodePoint c
  is : encode c ≡ bytes

-- a lead and its continuations are one, if the first of them may follow it
led_value : (a : ℕ) (ks : List ℕ) → IsWholeSequence a ks → MayFollow a (get_or ks 0 0) → (least_value (needed_continuations a) ≤ sequence_value a ks) × IsCodePoint (sequence_value a ks)
led_value a [] s f = (grind (arith, nat_tests, s.whole), grind (arith, nat_tests, s.whole))
led_value a (x ∷ y ∷ z ∷ w ∷ ks) s f = (grind (arith, nat_tests, s.whole), grind (arith, nat_tests, s.whole))
led_value a ks s f =
    let lead = f.lead (omega (arith, s.begun.lead_is.0)) in (
      grind (arith, nat_tests, s.whole, lead, s.begun.continued, f.three_long, f.four_long),
      grind (arith, nat_tests, s.whole, lead, s.begun.continued, f.within),
    )

led_form : (a : ℕ) (ks : List ℕ) → IsWholeSequence a ks → MayFollow a (get_or ks 0 0) → IsFormOf (sequence_value a ks) (a ∷ ks)
led_form a ks s f = let v = led_value a ks s f in record { code_point = v.1; is = shape_is_form a ks s v.0 }

-- the edge after n of the bytes that follow the first four
abbrev pub IsBetweenCodePointsAt : ℕ → ℕ → List ℕ → Type 0
IsBetweenCodePointsAt p n l = IsBetweenCodePoints p (get_or l (suc n) 0) (get_or l (suc (suc n)) 0) (get_or l (suc (suc (suc n))) 0)

-- the edge after one more form
edge_after : (p w x y z c : ℕ) (r : List ℕ) → IsBetweenCodePoints p x y z → IsBetweenCodePointsAt c (length (encode c)) (w ∷ x ∷ y ∷ z ∷ (encode c ++ r))
unfolding encode
edge_after p w x y z c r edge = grind (arith, nat_tests, common_steps)

-- and after forms
pub edge_of_forms : (p w x y z : ℕ) (cs r : List ℕ) → IsBetweenCodePoints p x y z → IsBetweenCodePointsAt (last_or p cs) (length (flat_map encode cs)) (w ∷ x ∷ y ∷ z ∷ (flat_map encode cs ++ r))
edge_of_forms p w x y z [] r edge = edge
edge_of_forms p w x y z (c ∷ cs) r edge = by (encode c) (form_bounds c) (edge_after p w x y z c (flat_map encode cs ++ r) edge) (λ w x y z e. edge_of_forms c w x y z cs r e)
  where
    by : (f : List ℕ) → (1 ≤ length f) × (length f ≤ 4) → IsBetweenCodePointsAt c (length f) (w ∷ x ∷ y ∷ z ∷ (f ++ (flat_map encode cs ++ r)))
        → ((w x y z : ℕ) → IsBetweenCodePoints c x y z → IsBetweenCodePointsAt (last_or c cs) (length (flat_map encode cs)) (w ∷ x ∷ y ∷ z ∷ (flat_map encode cs ++ r)))
        → IsBetweenCodePointsAt (last_or c cs) (length (f ++ flat_map encode cs)) (w ∷ x ∷ y ∷ z ∷ ((f ++ flat_map encode cs) ++ r))
    by (a ∷ []) l e more = more x y z a e
    by (a ∷ b ∷ []) l e more = more y z a b e
    by (a ∷ b ∷ d ∷ []) l e more = more z a b d e
    by (a ∷ b ∷ d ∷ g ∷ []) l e more = more a b d g e
    by f l e more = absurd (omega (arith, l.0, l.1))

-- bytes encode code points that p may precede
pub record IsWhole (encoding : Encoding) (p : ℕ) (bytes : List ℕ) : Type 0 where
  pub code_points : List ℕ
  pub encoded : Encodes bytes code_points
  pub free : MayPrecede p code_points
  pub plain : encoding ≡ Utf8 → AllByRecursion IsScalar code_points

-- the bytes of a surrogate
of_surrogate : (c : ℕ) (f : List ℕ) → IsFormOf c f → IsSurrogate c → (get_or f 0 0 ≡ 0xED) × (get_or f 1 0 ≡ 0x80 + (c / 0x40) % 0x40)
of_surrogate c f i h = grind (arith, nat_tests, common_steps, form_surrogate)

-- the pattern by recursion, for some of the bytes and the one after them
pub steps : (s : Encoding) (w x y z : ℕ) (bs rest : List ℕ) → EachMayFollow s (suc (length bs)) (w ∷ x ∷ y ∷ z ∷ (bs ++ rest)) → Steps s w x y z (bs ++ get_or rest 0 0 ∷ [])
steps s w x y z [] rest h = (h 0 (omega arith), tt)
steps s w x y z (b ∷ bs) rest h = (h 0 (omega arith), steps s x y z b bs rest (λ i l. h (suc i) (omega (arith, l))))

-- before a byte that is no continuation
module _ (s : Encoding) (next : ℕ) (ends : IsContinuation next → ⊥) where
  -- what is shown of n bytes at most
  abbrev Shown : ℕ → Type 0
  Shown n = (p w x y z : ℕ) (bs : List ℕ) → length bs ≤ n → IsBetweenCodePoints p x y z → Steps s w x y z (bs ++ next ∷ []) → IsWhole s p bs

  module _ (n p w x y z : ℕ) (shown : Shown n) (edge : IsBetweenCodePoints p x y z) where
    -- a form, and then the bytes after it
    form_read : (c : ℕ) (f bs : List ℕ) → IsFormOf c f → (s ≡ Utf8 → get_or f 0 0 ≡ 0xED → get_or f 1 0 < 0xA0) → (IsHigh p → get_or f 0 0 ≡ 0xED → get_or f 1 0 < 0xB0)
        → (IsBetweenCodePointsAt c (length f) (w ∷ x ∷ y ∷ z ∷ (f ++ [])) → IsWhole s c bs) → IsWhole s p (f ++ bs)
    form_read c f bs i plain unpaired more =
        let r = more (subst (λ f. IsBetweenCodePointsAt c (length f) (w ∷ x ∷ y ∷ z ∷ (f ++ []))) i.is (edge_after p w x y z c [] edge)) in
        record {
          code_points = c ∷ r.code_points;
          encoded = record {
            code_points = (i.code_point, r.encoded.code_points);
            no_pair = (r.free, r.encoded.no_pair);
            joined = ap (λ x. x ++ bs) (sym i.is) ∙ ap (λ x. encode c ++ x) r.encoded.joined;
          };
          free = λ g l. let o = of_surrogate c f i (low_surrogate c l) in omega (arith, unpaired g o.0, o.1, l.0, l.1);
          plain = λ e. (is_scalar c i.code_point (not_in_range 0xD800 0xDFFF c (λ h. let o = of_surrogate c f i h in omega (arith, plain e o.0, o.1, h.0, h.1))), r.plain e);
        }

    one_byte : (a : ℕ) (bs : List ℕ) → length bs ≤ n → a < 0x80 → Steps s x y z a (bs ++ next ∷ []) → IsWhole s p (a ∷ bs)
    one_byte a bs m u h =
        form_read a (a ∷ []) bs (record { code_point = omega (arith, u); is = form_ascii a u }) (λ _ e. omega (arith, e, u)) (λ _ e. omega (arith, e, u)) (λ e. shown a x y z a bs m e h)

    led_read : (a : ℕ) (ks bs : List ℕ) → 0xC0 ≤ a → AllByRecursion IsContinuation ks → length ks ≡ needed_continuations a → MayFollowAll s x y z a (get_or ks 0 0)
        → (IsBetweenCodePointsAt (sequence_value a ks) (length (a ∷ ks)) (w ∷ x ∷ y ∷ z ∷ ((a ∷ ks) ++ [])) → IsWhole s (sequence_value a ks) bs) → IsWhole s p ((a ∷ ks) ++ bs)
    led_read a ks bs l continued size q more =
        let lead = q.follows.lead l in
        form_read (sequence_value a ks) (a ∷ ks) bs (led_form a ks (record { begun = record { lead_is = (lead.0, omega (arith, lead.1)); continued = continued }; whole = size }) q.follows)
        (λ e i. q.plain e i) (λ g i. let high = edge.high g in q.unpaired high.0 high.1 high.2 i) more

    two_bytes : (a : ℕ) (bs : List ℕ) → length bs ≤ n → 0xC0 ≤ a → a < 0xE0 → Steps s x y z a (bs ++ next ∷ []) → IsWhole s p (a ∷ bs)
    two_bytes a [] m l u h = absurd (ends (h.0.continues (inr (inr l))))
    two_bytes a (b ∷ bs) m l u h = led_read a (b ∷ []) bs l (h.0.continues (inr (inr l)), tt) (grind (arith, nat_tests)) h.0 (λ e. shown _ y z a b bs (omega arith) e h.1)

    three_bytes : (a : ℕ) (bs : List ℕ) → length bs ≤ n → 0xE0 ≤ a → a < 0xF0 → Steps s x y z a (bs ++ next ∷ []) → IsWhole s p (a ∷ bs)
    three_bytes a [] m l u h = absurd (ends (h.0.continues (inr (inr (omega (arith, l))))))
    three_bytes a (b ∷ []) m l u h = absurd (ends (h.1.0.continues (inr (inl l))))
    three_bytes a (b ∷ d ∷ bs) m l u h =
        led_read a (b ∷ d ∷ []) bs (omega (arith, l)) (h.0.continues (inr (inr (omega (arith, l)))), (h.1.0.continues (inr (inl l)), tt)) (grind (arith, nat_tests)) h.0
        (λ e. shown _ z a b d bs (omega arith) e h.1.1)

    four_bytes : (a : ℕ) (bs : List ℕ) → length bs ≤ n → 0xF0 ≤ a → Steps s x y z a (bs ++ next ∷ []) → IsWhole s p (a ∷ bs)
    four_bytes a [] m l h = absurd (ends (h.0.continues (inr (inr (omega (arith, l))))))
    four_bytes a (b ∷ []) m l h = absurd (ends (h.1.0.continues (inr (inl (omega (arith, l))))))
    four_bytes a (b ∷ d ∷ []) m l h = absurd (ends (h.1.1.0.continues (inl l)))
    four_bytes a (b ∷ d ∷ g ∷ bs) m l h =
        led_read a (b ∷ d ∷ g ∷ []) bs (omega (arith, l)) (h.0.continues (inr (inr (omega (arith, l)))), (h.1.0.continues (inr (inl (omega (arith, l)))), (h.1.1.0.continues (inl l), tt)))
        (grind (arith, nat_tests)) h.0 (λ e. shown _ a b d g bs (omega arith) e h.1.1.1)

  by_length : (n : ℕ) → Shown n
  by_length n p w x y z [] m edge h = record { code_points = []; encoded = record { code_points = tt; no_pair = tt; joined = refl }; free = tt; plain = λ _. tt }
  by_length zero p w x y z (a ∷ bs) m edge h = absurd (omega (arith, m))
  by_length (suc n) p w x y z (a ∷ bs) m edge h =
      let few : length bs ≤ n = omega (arith, m) in
      ⊎_elim (λ u. one_byte n p w x y z (by_length n) edge a bs few u h.1)
      (λ l. ⊎_elim (λ u. two_bytes n p w x y z (by_length n) edge a bs few l u h.1) (λ k. ⊎_elim
      (λ u. three_bytes n p w x y z (by_length n) edge a bs few k u h.1) (λ v. four_bytes n p w x y z (by_length n) edge a bs few v h.1)
      (cases_lt a 0xF0)) (cases_lt a 0xE0)) (h.0.begins edge.closed)

  -- bytes that keep to the pattern, up to one that is no continuation, are whole
  pub whole : (p w x y z : ℕ) (bs : List ℕ) → IsBetweenCodePoints p x y z → Steps s w x y z (bs ++ next ∷ []) → IsWhole s p bs
  whole p w x y z bs edge h = by_length (length bs) p w x y z bs (omega arith) edge h
