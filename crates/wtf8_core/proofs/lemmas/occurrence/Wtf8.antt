-- The laws of occurrences and of joins for WTF-8.
use Rattle.wtf8_core.proofs.Common.{◌≡◌, ⊎_elim, ℕ, ◌<◌, true, List, [], ◌∷◌, ◌++◌, length, sym, ap, ◌∙◌, subst, arith, append-nil, append_assoc, and_parts, flat_map-append, AllByRecursion, flat_map, IsScalar, IsUtf8, all_scalars, scalar, scalar_cases, IsHigh, IsCodePoint, encode, encode_utf16, HasNoSurrogatePair, MayPrecede, last_or, units, Encodes, IsWtf8, units_of, IsCutAround, OccurrenceLaws}
use Rattle.wtf8_core.proofs.lemmas.{forms.Cuts.all_parts, forms.Cuts.paired_suffix, forms.Cuts.bytes_found, forms.ByStd.forms_prefix, forms.Appending.all_joined, characters.AtIndices.scalar_point, units.OneToOne.precedes_wide, units.OneToOne.IsUnit, units.OneToOne.units_encoded, units.OneToOne.may_precede, units.AsFunction.code_points_in-encoded, units.AsFunction.units_of-is, units.AsFunction.one_encoding, units.Cuts.encodes_prefix, units.Cuts.encodes_suffix, units.Cuts.units_fit, units.Cuts.cut_at_units, units.Cuts.last_unit, units.Cuts.units_prefix, texts.AreWtf8.text_encodes, texts.AreWtf8.wtf8_of_text}

-- the units of what code points encode
pub units_of_encoded : (b cs : List ℕ) → Encodes b cs → units_of b ≡ units cs
units_of_encoded b cs s = ap units (code_points_in-encoded b cs s)

-- the last of some scalars is no high surrogate
last_scalar : (u : ℕ) (ps : List ℕ) → (IsHigh u → ⊥) → all_scalars ps ≡ true → IsHigh (last_or u ps) → ⊥
last_scalar u [] n a h = n h
last_scalar u (p ∷ ps) n a h = let b = and_parts (scalar p) (all_scalars ps) a in last_scalar p ps (λ l. ⊎_elim (λ h. omega (arith, l.0)) (λ h. omega (arith, h.0, l.1)) (scalar_cases p b.0)) b.1 h

-- anything may precede the units of a scalar
precedes_scalar : (c p : ℕ) (ps vs : List ℕ) → IsScalar p → MayPrecede c (units (p ∷ ps) ++ vs)
precedes_scalar c p ps vs s = subst (MayPrecede c) (sym (append_assoc (encode_utf16 p) (units ps) vs)) (precedes_wide c p (units ps ++ vs) (scalar_point p s) (λ i l. ⊎_elim (λ h. omega (arith, l.0)) (λ h. omega (arith, h.0, l.1)) (scalar_cases p s)))

-- code points whose units are us, then those of ps, then vs
record AreUnitsFound (cs us vs ps : List ℕ) : Type 0 where
  prefix : List ℕ
  suffix : List ℕ
  cut : cs ≡ prefix ++ (ps ++ suffix)
  prefix_is : units prefix ≡ us

-- where the units of a text occur, its characters occur
units_found : (cs us vs ps : List ℕ) → AllByRecursion IsCodePoint cs → HasNoSurrogatePair cs → all_scalars ps ≡ true → AllByRecursion IsCodePoint ps → HasNoSurrogatePair ps → 0 < length ps → units cs ≡ us ++ (units ps ++ vs) → AreUnitsFound cs us vs ps
units_found cs us vs [] a f b p g h e = absurd (omega arith)
units_found cs us vs (p ∷ ps) a f b k g h e =
    let s = and_parts (scalar p) (all_scalars ps) b in
    let c = cut_at_units cs us (units (p ∷ ps) ++ vs) a f e (precedes_scalar (last_or 0 us) p ps vs s.0) in
    let a' = (all_parts IsCodePoint c.prefix c.suffix (subst (AllByRecursion IsCodePoint) c.cut a)).1 in
    let f' = paired_suffix c.prefix c.suffix (subst HasNoSurrogatePair c.cut f) in
    let n = last_unit 0 (p ∷ ps) (last_scalar 0 (p ∷ ps) (λ l. omega (arith, l.0)) b) in
    let w = units_prefix c.suffix (p ∷ ps) vs a' f' k g (may_precede (last_or 0 (units (p ∷ ps))) vs n) c.suffix_is in
    record { prefix = c.prefix; suffix = w.0; cut = c.cut ∙ ap (λ z. c.prefix ++ z) w.1; prefix_is = c.prefix_is }

-- what isn't empty has code points
some_points : (p ps : List ℕ) → p ≡ flat_map encode ps → 0 < length p → 0 < length ps
some_points p [] e h = absurd (omega (arith, ap length e))
some_points p (q ∷ ps) e h = omega arith

-- what comes after WTF-8 at the start
wtf8_prefixes : (x y : List ℕ) → IsWtf8 x → IsWtf8 (x ++ y) → IsWtf8 y × (units_of (x ++ y) ≡ units_of x ++ units_of y)
wtf8_prefixes x y (ds, d) (cs, c) =
    let w = forms_prefix ds cs y (sym c.joined ∙ ap (λ z. z ++ y) d.joined) in
    let s : Encodes y w.0 = subst (λ z. Encodes z w.0) w.2 (encodes_suffix ds w.0 (subst (AllByRecursion IsCodePoint) w.1 c.code_points) (subst HasNoSurrogatePair w.1 c.no_pair)) in
    ((w.0, s), units_of_encoded (x ++ y) cs c ∙ ap units w.1 ∙ flat_map-append encode_utf16 ds w.0 ∙ ap (λ z. z ++ units w.0) (sym (units_of_encoded x ds d)) ∙ ap (λ z. units_of x ++ z) (sym (units_of_encoded y w.0 s)))

-- what comes before the bytes of code points
before_points : (x y cs ds : List ℕ) → Encodes (x ++ (flat_map encode ds ++ y)) cs → 0 < length ds → IsWtf8 x
before_points x y cs ds c h =
    let f = bytes_found cs x y ds h (sym c.joined) in
    (f.prefix, subst (λ z. Encodes z f.prefix) f.prefix_is (encodes_prefix f.prefix (ds ++ f.suffix) (subst (AllByRecursion IsCodePoint) f.cut c.code_points) (subst HasNoSurrogatePair f.cut c.no_pair)))

wtf8_before_text : (p x y : List ℕ) → IsUtf8 p → 0 < length p → IsWtf8 (x ++ (p ++ y)) → IsWtf8 x
wtf8_before_text p x y t h (cs, c) =
    let d = text_encodes p t in
    before_points x y cs t.0 (subst (λ z. Encodes (x ++ (z ++ y)) cs) d.joined c) (some_points p t.0 d.joined h)

wtf8_suffixes : (x y : List ℕ) → IsWtf8 y → IsWtf8 (x ++ y) → IsWtf8 x
wtf8_suffixes x y (es, e) (cs, c) = at es e.joined
  where
    at : (es : List ℕ) → y ≡ flat_map encode es → IsWtf8 x
    at [] s = (cs, subst (λ z. Encodes z cs) (ap (λ z. x ++ z) s ∙ append-nil x) c)
    at (d ∷ ds) s = before_points x [] cs (d ∷ ds) (subst (λ z. Encodes (x ++ z) cs) (s ∙ sym (append-nil (flat_map encode (d ∷ ds)))) c) (omega arith)

wtf8_units_occur : (p s us vs : List ℕ) → IsUtf8 p → 0 < length p → IsWtf8 s → units_of s ≡ us ++ (units_of p ++ vs) → IsCutAround IsWtf8 units_of p s us
wtf8_units_occur p s us vs t h (cs, c) e =
    let d = text_encodes p t in
    let b = units_found cs us vs t.0 c.code_points c.no_pair t.1.0 d.code_points d.no_pair (some_points p t.0 d.joined h)
    (sym (units_of_encoded s cs c) ∙ e ∙ ap (λ z. us ++ (z ++ vs)) (units_of_encoded p t.0 d)) in
    let f = encodes_prefix b.prefix (t.0 ++ b.suffix) (subst (AllByRecursion IsCodePoint) b.cut c.code_points) (subst HasNoSurrogatePair b.cut c.no_pair) in
    record {
      prefix = flat_map encode b.prefix;
      suffix = flat_map encode b.suffix;
      joined = c.joined ∙ ap (flat_map encode) b.cut ∙ flat_map-append encode b.prefix (t.0 ++ b.suffix) ∙ ap (λ z. flat_map encode b.prefix ++ z) (flat_map-append encode t.0 b.suffix ∙ ap (λ z. z ++ flat_map encode b.suffix) (sym d.joined));
      formed = (b.prefix, f);
      units_are = units_of_encoded (flat_map encode b.prefix) b.prefix f ∙ b.prefix_is;
    }

-- the units of WTF-8 are 16-bit numbers
units_of_fit : (s : List ℕ) → IsWtf8 s → AllByRecursion IsUnit (units_of s)
units_of_fit s (cs, c) = subst (AllByRecursion IsUnit) (sym (units_of_encoded s cs c)) (units_fit cs c.code_points)

-- WTF-8 with these units
with_units : (us : List ℕ) → AllByRecursion IsUnit us → (w : List ℕ) × (IsWtf8 w × (units_of w ≡ us))
with_units us a = let r = units_encoded us a in (r.0, ((r.1.code_points, r.1.encoded), units_of-is r.0 us r.1))

pub wtf8_occurrence : OccurrenceLaws IsWtf8 units_of
wtf8_occurrence = record {
  texts = wtf8_of_text;
  once = one_encoding;
  prefixes = wtf8_prefixes;
  ends = wtf8_suffixes;
  before_text = wtf8_before_text;
  units_occur = wtf8_units_occur;
  some_join = λ x y v w. with_units (units_of x ++ units_of y) (all_joined IsUnit (units_of x) (units_of y) (units_of_fit x v) (units_of_fit y w));
  some_rest = λ x s us v w e. with_units us (all_parts IsUnit (units_of x) us (subst (AllByRecursion IsUnit) e (units_of_fit s w))).1;
}
