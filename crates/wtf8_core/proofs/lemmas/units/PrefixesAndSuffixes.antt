-- Prefixes and suffixes of WTF-8 by units: by bytes, but where a half of a pair is at the edge.
use Rattle.wtf8_core.proofs.Common.{◌≡◌, ℕ, List, [], ◌∷◌, ◌++◌, refl, sym, ap, ◌∙◌, subst, arith, append_assoc, flat_map-append, append_cancel_left, append_cancel_right, AllByRecursion, flat_map, IsHigh, IsLow, IsCodePoint, encode, encode_utf16, HasNoSurrogatePair, MayPrecede, last_or, units, Encodes, IsWtf8, units_of, IsPrefix, IsSuffix, common_steps, nat_tests}
use Rattle.wtf8_core.proofs.lemmas.{forms.Appending.last_append, forms.Appending.encodes_one, units.OneToOne.wide_single, units.OneToOne.precedes_wide, units.OneToOne.may_precede, units.Cuts.encodes_prefix, units.Cuts.units_prefix, units.Cuts.units_suffix, units.Cuts.last_unit, occurrence.Wtf8.units_of_encoded, occurrence.Wtf8.wtf8_occurrence, forms.LastForms.last_point, forms.LastForms.split_at_last, forms.LastForms.forms_last, forms.LastForms.units_last}

-- what is a prefix of the code points is one of the bytes
prefix_of_bytes : (s p cs ps es : List ℕ) → s ≡ flat_map encode cs → p ≡ flat_map encode ps → cs ≡ ps ++ es → IsPrefix p s
prefix_of_bytes s p cs ps es e f g = record { rest = flat_map encode es; joined = e ∙ ap (flat_map encode) g ∙ flat_map-append encode ps es ∙ ap (λ z. z ++ flat_map encode es) (sym f) }

-- and what is a suffix of them a suffix
end_of_bytes : (s p cs ps ds : List ℕ) → s ≡ flat_map encode cs → p ≡ flat_map encode ps → cs ≡ ds ++ ps → IsSuffix p s
end_of_bytes s p cs ps ds e f g = record { rest = flat_map encode ds; joined = e ∙ ap (flat_map encode) g ∙ flat_map-append encode ds ps ∙ ap (λ z. flat_map encode ds ++ z) (sym f) }

-- a string that ends with no high surrogate is a prefix in units exactly where it is one in bytes
pub plain_prefix : (s p : List ℕ) → IsWtf8 s → IsWtf8 p → ((x : List ℕ) (c : ℕ) → IsHigh c → p ≡ x ++ encode c → ⊥) → IsPrefix (units_of p) (units_of s) → IsPrefix p s
plain_prefix s p (cs, c) (ps, d) n f =
    let no_high : IsHigh (last_or 0 ps) → ⊥ = λ h. let w = split_at_last 0 ps (λ k. omega (arith, k.0)) h in n (flat_map encode w.0) (last_or 0 ps) h (d.joined ∙ ap (flat_map encode) w.1 ∙ forms_last w.0 (last_or 0 ps)) in
    let w = units_prefix cs ps f.rest c.code_points c.no_pair d.code_points d.no_pair (may_precede (last_or 0 (units ps)) f.rest (last_unit 0 ps no_high))
    (sym (units_of_encoded s cs c) ∙ f.joined ∙ ap (λ z. z ++ f.rest) (units_of_encoded p ps d)) in
    prefix_of_bytes s p cs ps w.0 c.joined d.joined w.1

pub prefix_plain : (s p : List ℕ) → IsWtf8 s → IsWtf8 p → IsPrefix p s → IsPrefix (units_of p) (units_of s)
prefix_plain s p c d f =
    let w = wtf8_occurrence.prefixes p f.rest d (subst IsWtf8 f.joined c) in
    record { rest = units_of f.rest; joined = ap units_of f.joined ∙ w.1 }

-- a string that ends with a high surrogate: what comes before it
record IsHighSuffix (p before : List ℕ) (h : ℕ) : Type 0 where
  formed : IsWtf8 before
  units_are : units_of p ≡ units_of before ++ h ∷ []

high_suffix : (p before : List ℕ) (h : ℕ) → IsWtf8 p → IsHigh h → p ≡ before ++ encode h → IsHighSuffix p before h
high_suffix p before h (ps, d) i e =
    let w = last_point ps before h (sym d.joined ∙ e) in
    let f = encodes_prefix w.0 (h ∷ []) (subst (AllByRecursion IsCodePoint) w.1 d.code_points) (subst HasNoSurrogatePair w.1 d.no_pair) in
    let b : Encodes before w.0 = subst (λ z. Encodes z w.0) w.2 f in
    record {
      formed = (w.0, b);
      units_are = units_of_encoded p ps d ∙ ap units w.1 ∙ units_last w.0 h ∙ ap (λ z. z ++ encode_utf16 h) (sym (units_of_encoded before w.0 b)) ∙ ap (λ z. units_of before ++ z) (wide_single h (omega (arith, i.1)));
    }

-- it is a prefix in units exactly where what comes before is one in bytes and the surrogate the next unit
pub high_prefix : (s p before : List ℕ) (h : ℕ) → IsWtf8 s → IsWtf8 p → IsHigh h → p ≡ before ++ encode h → IsPrefix (units_of p) (units_of s) → IsPrefix before s
high_prefix s p before h (cs, c) d i e f =
    let w = high_suffix p before h d i e in
    let b = w.formed.1 in
    let r = units_prefix cs w.formed.0 (h ∷ f.rest) c.code_points c.no_pair b.code_points b.no_pair (λ j l. omega (arith, i.1, l.0))
    (sym (units_of_encoded s cs c) ∙ f.joined ∙ ap (λ z. z ++ f.rest) (w.units_are ∙ ap (λ z. z ++ h ∷ []) (units_of_encoded before w.formed.0 b)) ∙ append_assoc (units w.formed.0) (h ∷ []) f.rest) in
    prefix_of_bytes s before cs w.formed.0 r.0 c.joined b.joined r.1

pub record IsHighPrefix (s p rest : List ℕ) (h : ℕ) : Type 0 where
  pub formed : IsWtf8 rest
  pub to : IsPrefix (units_of p) (units_of s) → IsPrefix (h ∷ []) (units_of rest)
  pub from : IsPrefix (h ∷ []) (units_of rest) → IsPrefix (units_of p) (units_of s)

pub high_next : (s p before rest : List ℕ) (h : ℕ) → IsWtf8 s → IsWtf8 p → IsHigh h → p ≡ before ++ encode h → s ≡ before ++ rest → IsHighPrefix s p rest h
high_next s p before rest h c d i e g =
    let w = high_suffix p before h d i e in
    let u = wtf8_occurrence.prefixes before rest w.formed (subst IsWtf8 g c) in
    let are : units_of s ≡ units_of before ++ units_of rest = ap units_of g ∙ u.1 in
    record {
      formed = u.0;
      to = λ f. record { rest = f.rest; joined = append_cancel_left (units_of before) (units_of rest) ((h ∷ []) ++ f.rest) (sym are ∙ f.joined ∙ ap (λ z. z ++ f.rest) w.units_are ∙ append_assoc (units_of before) (h ∷ []) f.rest) };
      from = λ f. record { rest = f.rest; joined = are ∙ ap (λ z. units_of before ++ z) f.joined ∙ sym (append_assoc (units_of before) (h ∷ []) f.rest) ∙ ap (λ z. z ++ f.rest) (sym w.units_are) };
    }

-- what comes before a suffix that is WTF-8 is WTF-8, and the units are joined
ends_joined : (x y : List ℕ) → IsWtf8 y → IsWtf8 (x ++ y) → IsWtf8 x × (units_of (x ++ y) ≡ units_of x ++ units_of y)
ends_joined x y v w = let u = wtf8_occurrence.ends x y v w in (u, (wtf8_occurrence.prefixes x y u w).1)

-- a string that begins with no low surrogate is a suffix in units exactly where it is one in bytes
pub end_plain : (s p : List ℕ) → IsWtf8 s → IsWtf8 p → IsSuffix p s → IsSuffix (units_of p) (units_of s)
end_plain s p c d f = grind (arith, nat_tests, common_steps, ends_joined, f.joined)

pub plain_end : (s p : List ℕ) → IsWtf8 s → IsWtf8 p → ((c : ℕ) (y : List ℕ) → IsLow c → p ≡ encode c ++ y → ⊥) → IsSuffix (units_of p) (units_of s) → IsSuffix p s
plain_end s p (cs, c) (ps, d) n f =
    let w = units_suffix cs f.rest ps c.code_points c.no_pair d.code_points d.no_pair (no_low (last_or 0 f.rest) ps d.code_points (λ q qs l e. n q (flat_map encode qs) l (d.joined ∙ ap (flat_map encode) e)))
    (sym (units_of_encoded s cs c) ∙ f.joined ∙ ap (λ z. f.rest ++ z) (units_of_encoded p ps d)) in
    end_of_bytes s p cs ps w.0 c.joined d.joined w.1
  where
    no_low : (u : ℕ) (ps : List ℕ) → AllByRecursion IsCodePoint ps → ((q : ℕ) (qs : List ℕ) → IsLow q → ps ≡ q ∷ qs → ⊥) → MayPrecede u (units ps)
    no_low u [] a n = tt
    no_low u (q ∷ qs) a n = precedes_wide u q (units qs) a.0 (λ i l. n q qs l refl)

-- a string that begins with a low surrogate: what comes after it
record IsLowPrefix (p after : List ℕ) (l : ℕ) : Type 0 where
  formed : IsWtf8 after
  units_are : units_of p ≡ l ∷ units_of after

low_prefix : (p after : List ℕ) (l : ℕ) → IsWtf8 p → IsLow l → p ≡ encode l ++ after → IsLowPrefix p after l
low_prefix p after l d i e =
    let one = encodes_one l (omega (arith, i.1)) in
    let w = wtf8_occurrence.prefixes (encode l) after (l ∷ [], one) (subst IsWtf8 e d) in
    record { formed = w.0; units_are = ap units_of e ∙ w.1 ∙ ap (λ z. z ++ units_of after) (units_of_encoded (encode l) (l ∷ []) one ∙ ap (λ z. z ++ []) (wide_single l (omega (arith, i.1)))) }

-- it is a suffix in units exactly where what comes after is one in bytes and the surrogate the unit before
pub low_suffix : (s p after : List ℕ) (l : ℕ) → IsWtf8 s → IsWtf8 p → IsLow l → p ≡ encode l ++ after → IsSuffix (units_of p) (units_of s) → IsSuffix after s
low_suffix s p after l (cs, c) d i e f =
    let w = low_prefix p after l d i e in
    let qs = w.formed.0 in
    let b = w.formed.1 in
    let m : MayPrecede (last_or 0 (f.rest ++ l ∷ [])) (units qs) = may_precede (last_or 0 (f.rest ++ l ∷ [])) (units qs) (λ h. absurd (omega (arith, last_append 0 f.rest (l ∷ []), h.1, i.0))) in
    let r = units_suffix cs (f.rest ++ l ∷ []) qs c.code_points c.no_pair b.code_points b.no_pair m
    (sym (units_of_encoded s cs c) ∙ f.joined ∙ ap (λ z. f.rest ++ z) (w.units_are ∙ ap (λ z. l ∷ z) (units_of_encoded after qs b)) ∙ sym (append_assoc f.rest (l ∷ []) (units qs))) in
    end_of_bytes s after cs qs r.0 c.joined b.joined r.1

pub record IsLowSuffix (s p rest : List ℕ) (l : ℕ) : Type 0 where
  pub formed : IsWtf8 rest
  pub to : IsSuffix (units_of p) (units_of s) → IsSuffix (l ∷ []) (units_of rest)
  pub from : IsSuffix (l ∷ []) (units_of rest) → IsSuffix (units_of p) (units_of s)

pub low_before : (s p after rest : List ℕ) (l : ℕ) → IsWtf8 s → IsWtf8 p → IsLow l → p ≡ encode l ++ after → s ≡ rest ++ after → IsLowSuffix s p rest l
low_before s p after rest l c d i e g =
    let w = low_prefix p after l d i e in
    let u = ends_joined rest after w.formed (subst IsWtf8 g c) in
    let are : units_of s ≡ units_of rest ++ units_of after = ap units_of g ∙ u.1 in
    record {
      formed = u.0;
      to = λ f. record { rest = f.rest; joined = append_cancel_right (units_of rest) (f.rest ++ l ∷ []) (units_of after) (sym are ∙ f.joined ∙ ap (λ z. f.rest ++ z) w.units_are ∙ sym (append_assoc f.rest (l ∷ []) (units_of after))) };
      from = λ f. record { rest = f.rest; joined = are ∙ ap (λ z. z ++ units_of after) f.joined ∙ append_assoc f.rest (l ∷ []) (units_of after) ∙ ap (λ z. f.rest ++ z) (sym w.units_are) };
    }
