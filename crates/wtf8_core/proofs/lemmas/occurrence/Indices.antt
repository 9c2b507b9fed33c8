-- From the laws of occurrences alone: what holds of indices in bytes holds of indices in units.
use Rattle.wtf8_core.proofs.Common.{nat_tests, common_steps, ◌≡◌, ⊎_elim, ℕ, ◌+◌, ◌<◌, ◌≤◌, List, [], ◌∷◌, ◌++◌, length, Option, Some, None, refl, sym, ap, ◌∙◌, subst, arith, append-nil, length-append, cases_lt, append_cancel_left, nil_from_length, IsUtf8, OccursAt, OccursNowhere, IsFirstIndex, IsLastIndex, Finds, IsByteIndex, IsUnitIndexOf, FindsInUnits, OccurrenceLaws}

-- of two prefixes of a list one is a prefix of the other
pub shorter_prefix : (x y z w : List ℕ) → x ++ z ≡ y ++ w → length x ≤ length y → (v : List ℕ) × (y ≡ x ++ v) × (z ≡ v ++ w)
shorter_prefix [] y z w e h = (y, refl, e)
shorter_prefix (a ∷ x) [] z w e h = absurd (omega arith)
shorter_prefix (a ∷ x) (b ∷ y) z w e h =
    let k : a ≡ b = cc in
    let t : x ++ z ≡ y ++ w = cc in
    let r = shorter_prefix x y z w t (omega arith) in
    (r.0, ap (λ l. b ∷ l) r.1 ∙ ap (λ c. c ∷ (x ++ r.0)) (sym k), r.2)

module _ (wf : List ℕ → Type 0) (units : List ℕ → List ℕ) (laws : OccurrenceLaws wf units) where
  -- the empty string, and its units
  pub nil_formed : wf []
  nil_formed = laws.texts [] ([], (refl, refl))

  pub no_units : units [] ≡ []
  no_units = let e : units [] ≡ units [] ++ units [] = (laws.prefixes [] [] nil_formed nil_formed).1 in append_cancel_left (units []) (units []) [] (sym e ∙ sym (append-nil (units [])))

  -- a string with no units is empty
  pub nothing : (v : List ℕ) → wf v → units v ≡ [] → v ≡ []
  nothing v w e = laws.once v [] w nil_formed (e ∙ sym no_units)

  -- what a longer prefix has after a shorter one, with its units
  longer : (s : List ℕ) (i j k l : ℕ) → (a : IsByteIndex wf units s i j) → (b : IsByteIndex wf units s k l) → j ≤ l → (v : List ℕ) × wf v × (b.prefix ≡ a.prefix ++ v) × (k ≡ i + length (units v))
  longer s i j k l a b h =
      let c = shorter_prefix a.prefix b.prefix a.rest b.rest (sym a.joined ∙ b.joined) (omega (arith, a.index, b.index)) in
      let u = laws.prefixes a.prefix c.0 a.formed (subst wf c.1 b.formed) in
      let e : length (units b.prefix) ≡ length (units a.prefix) + length (units c.0) = ap (λ z. length (units z)) c.1 ∙ ap length u.1 ∙ length-append (units a.prefix) (units c.0) in
      (c.0, u.0, c.1, omega (arith, a.many, b.many))

  -- byte indices are in the order of their unit indices
  pub in_order : (s : List ℕ) (i j k l : ℕ) → IsByteIndex wf units s i j → IsByteIndex wf units s k l → i < k → j < l
  in_order s i j k l a b h = ⊎_elim (λ m. m) (λ m. let c = longer s k l i j b a m in absurd (omega (arith, c.3))) (cases_lt j l)

  -- a unit index has one byte index
  no_longer : (s : List ℕ) (i j k : ℕ) → IsByteIndex wf units s i j → IsByteIndex wf units s i k → j ≤ k → j ≡ k
  no_longer s i j k a b h =
      let c = longer s i j i k a b h in
      let n : c.0 ≡ [] = nothing c.0 c.1 (nil_from_length (units c.0) (omega (arith, c.3))) in
      sym a.index ∙ ap length (sym (append-nil a.prefix) ∙ ap (λ z. a.prefix ++ z) (sym n) ∙ sym c.2) ∙ b.index

  pub one_byte_index : (s : List ℕ) (i j k : ℕ) → IsByteIndex wf units s i j → IsByteIndex wf units s i k → j ≡ k
  one_byte_index s i j k a b = ⊎_elim (λ h. no_longer s i j k a b (omega arith)) (λ h. sym (no_longer s i k j b a h)) (cases_lt j k)

  -- around a text
  pub around : (p s prefix suffix : List ℕ) → IsUtf8 p → 0 < length p → wf s → s ≡ prefix ++ (p ++ suffix) → wf prefix × wf suffix × (units s ≡ units prefix ++ (units p ++ units suffix))
  around p s prefix suffix t h w e =
      let w' = subst wf e w in
      let x = laws.before_text p prefix suffix t h w' in
      let u = laws.prefixes prefix (p ++ suffix) x w' in
      let v = laws.prefixes p suffix (laws.texts p t) u.0 in
      (x, v.0, ap units e ∙ u.1 ∙ ap (λ z. units prefix ++ z) v.1)

  -- the units of a text occur at a unit index whose byte index is j
  abbrev pub OccursInUnitsAt : List ℕ → List ℕ → ℕ → Type 0
  OccursInUnitsAt p s j = (i : ℕ) × (IsByteIndex wf units s i j × OccursAt (units p) (units s) i)

  -- the law of occurrences: what occurs in bytes at a byte index occurs in units at its unit index
  pub bytes_occur : (p s : List ℕ) (j : ℕ) → IsUtf8 p → 0 < length p → wf s → OccursAt p s j → OccursInUnitsAt p s j
  bytes_occur p s j t h w st =
      let a = around p s st.before st.after t h w st.joined in (
        length (units st.before),
        (
          record { prefix = st.before; rest = p ++ st.after; joined = st.joined; formed = a.0; many = refl; index = st.index },
          record { before = units st.before; after = units st.after; joined = a.2; index = refl },
        ),
      )

  -- what occurs in units at a unit index occurs in bytes at its byte index, which exists
  pub units_occur : (p s : List ℕ) (i : ℕ) → IsUtf8 p → 0 < length p → wf s → OccursAt (units p) (units s) i → (j : ℕ) × (IsByteIndex wf units s i j × OccursAt p s j)
  units_occur p s i t h w st =
      let m = laws.units_occur p s st.before st.after t h w st.joined in (
        length m.prefix,
        (
          record { prefix = m.prefix; rest = p ++ m.suffix; joined = m.joined; formed = m.formed; many = ap length m.units_are ∙ st.index; index = refl },
          record { before = m.prefix; after = m.suffix; joined = m.joined; index = refl },
        ),
      )

  -- both ways
  pub occurs_alike : (p s : List ℕ) (j : ℕ) → IsUtf8 p → 0 < length p → wf s → (OccursAt p s j → OccursInUnitsAt p s j) × (OccursInUnitsAt p s j → OccursAt p s j)
  occurs_alike p s j t h w = (
    bytes_occur p s j t h w,
    λ a. let b = units_occur p s a.0 t h w a.1.1 in subst (λ k. OccursAt p s k) (one_byte_index s a.0 b.0 j b.1.0 a.1.0) b.1.1,
  )

  -- the first byte index is that of the first unit index
  pub least : (p s : List ℕ) (j : ℕ) → IsUtf8 p → 0 < length p → wf s → IsFirstIndex p s j → IsUnitIndexOf IsFirstIndex wf units p s j
  least p s j t h w l =
      let a = bytes_occur p s j t h w l.occurs in
      record {
        unit_index = a.0;
        byte_index = a.1.0;
        is = record { occurs = a.1.1; least = λ k b st. let c = units_occur p s k t h w st in l.least c.0 (in_order s k c.0 a.0 j c.1.0 a.1.0 b) c.1.1 };
      }

  -- the last byte index is that of the last unit index
  pub greatest : (p s : List ℕ) (j : ℕ) → IsUtf8 p → 0 < length p → wf s → IsLastIndex p s j → IsUnitIndexOf IsLastIndex wf units p s j
  greatest p s j t h w g =
      let a = bytes_occur p s j t h w g.occurs in
      record {
        unit_index = a.0;
        byte_index = a.1.0;
        is = record { occurs = a.1.1; greatest = λ k b st. let c = units_occur p s k t h w st in g.greatest c.0 (in_order s a.0 j k c.0 a.1.0 c.1.0 b) c.1.1 };
      }

  pub nowhere : (p s : List ℕ) → IsUtf8 p → 0 < length p → wf s → OccursNowhere p s → OccursNowhere (units p) (units s)
  nowhere p s t h w n i st = let c = units_occur p s i t h w st in n c.0 c.1.1

  -- the first occurrence of the empty text is at the start, the last at the end
  pub none_first : (s : List ℕ) (j : ℕ) → IsFirstIndex [] s j → j ≡ 0
  none_first s j l = ⊎_elim (λ m. absurd (l.least 0 m (record { before = []; after = s; joined = refl; index = refl }))) (λ m. omega arith) (cases_lt 0 j)

  pub none_last : (s : List ℕ) (j : ℕ) → IsLastIndex [] s j → j ≡ length s
  none_last s j g =
      let n : length s ≡ length g.occurs.before + length g.occurs.after = ap length g.occurs.joined ∙ length-append g.occurs.before g.occurs.after in
      ⊎_elim
      (λ m. absurd (g.greatest (length s) m (record { before = s; after = []; joined = sym (append-nil s); index = refl })))
      (λ m. omega (arith, n, g.occurs.index))
      (cases_lt j (length s))

  -- so do its units
  pub no_units_first : (us : List ℕ) → IsFirstIndex (units []) us 0
  no_units_first us = record {
    occurs = record { before = []; after = us; joined = ap (λ z. z ++ us) (sym no_units); index = refl };
    least = λ k b st. absurd (omega (arith, b));
  }

  pub no_units_last : (us : List ℕ) → IsLastIndex (units []) us (length us)
  no_units_last us = grind (arith, nat_tests, common_steps, append-nil, no_units, greatest, length-append)

  first_of_none : (s : List ℕ) (j : ℕ) → wf s → IsFirstIndex [] s j → IsUnitIndexOf IsFirstIndex wf units [] s j
  first_of_none s j w l = record {
    unit_index = 0;
    is = no_units_first (units s);
    byte_index = record { prefix = []; rest = s; joined = refl; formed = nil_formed; many = ap length no_units; index = sym (none_first s j l) };
  }

  last_of_none : (s : List ℕ) (j : ℕ) → wf s → IsLastIndex [] s j → IsUnitIndexOf IsLastIndex wf units [] s j
  last_of_none s j w g = record {
    unit_index = length (units s);
    is = no_units_last (units s);
    byte_index = record { prefix = s; rest = []; joined = sym (append-nil s); formed = w; many = refl; index = sym (none_last s j g) };
  }

  -- a text that doesn't occur isn't empty
  pub nowhere_in_units : (p s : List ℕ) → IsUtf8 p → wf s → OccursNowhere p s → OccursNowhere (units p) (units s)
  nowhere_in_units [] s t w n = absurd (n 0 (record { before = []; after = s; joined = refl; index = refl }))
  nowhere_in_units (x ∷ p) s t w n = nowhere (x ∷ p) s t (omega arith) w n

  -- what is found in bytes is found in units
  pub finds_first : (p s : List ℕ) (r : Option ℕ) → IsUtf8 p → wf s → Finds IsFirstIndex p s r → FindsInUnits IsFirstIndex wf units p s r
  finds_first p s None t w f = nowhere_in_units p s t w f
  finds_first [] s (Some j) t w f = first_of_none s j w f
  finds_first (x ∷ p) s (Some j) t w f = least (x ∷ p) s j t (omega arith) w f

  pub finds_last : (p s : List ℕ) (r : Option ℕ) → IsUtf8 p → wf s → Finds IsLastIndex p s r → FindsInUnits IsLastIndex wf units p s r
  finds_last p s None t w f = nowhere_in_units p s t w f
  finds_last [] s (Some j) t w f = last_of_none s j w f
  finds_last (x ∷ p) s (Some j) t w f = greatest (x ∷ p) s j t (omega arith) w f
