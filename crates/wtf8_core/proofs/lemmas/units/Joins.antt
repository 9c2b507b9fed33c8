-- Strings joined, by units: the same as by bytes, unless a high surrogate is followed by a low one.
use Rattle.wtf8_core.proofs.Common.{◌≡◌, ℕ, ◌+◌, ◌-◌, ◌/◌, ◌%◌, ◌≤◌, List, [], ◌∷◌, ◌++◌, length, take, drop, refl, sym, ap, ◌∙◌, subst, arith, append_assoc, append-nil, length-append, take-append_seam, drop-append-add, flat_map-append, AllByRecursion, flat_map, IsCodePoint, encode, encode_utf16, HasNoSurrogatePair, MayPrecede, last_or, units, Encodes, IsWtf8, units_of, paired, common_steps, nat_tests}
use Rattle.wtf8_core.specs.Join.{IsJoin, IsPairBetween}
use Rattle.wtf8_core.proofs.lemmas.{forms.Ranges.high_surrogate, forms.Ranges.low_surrogate, forms.Shapes.form_surrogate, forms.ByStd.forms_prefix, units.OneToOne.wide_single, units.OneToOne.may_precede, units.OneToOne.paired_units, units.Cuts.encodes_prefix, units.Cuts.encodes_suffix, forms.Appending.encodes_one, forms.Appending.encodes_joined, occurrence.Wtf8.units_of_encoded, forms.LastForms.last_point, forms.LastForms.split_at_last, forms.LastForms.forms_last, forms.LastForms.units_last}

-- where no pair arises, the bytes joined
pub plain_join : (a b : List ℕ) → IsWtf8 a → IsWtf8 b → ((c : ℕ) → IsPairBetween a b c → ⊥) → IsJoin IsWtf8 units_of a b (a ++ b)
plain_join a b (cs, s) (ds, t) n =
    let j = encodes_joined a b cs ds s t (apart ds t.joined) in
    ((cs ++ ds, j), units_of_encoded (a ++ b) (cs ++ ds) j ∙ flat_map-append encode_utf16 cs ds ∙ ap (λ z. z ++ units ds) (sym (units_of_encoded a cs s)) ∙ ap (λ z. units_of a ++ z) (sym (units_of_encoded b ds t)))
  where
    apart : (ds : List ℕ) → b ≡ flat_map encode ds → MayPrecede (last_or 0 cs) ds
    apart [] e = tt
    apart (d ∷ ds) e = λ h l.
        let w = split_at_last 0 cs (λ k. omega (arith, k.0)) h in
        n (paired (last_or 0 cs) d) (record { prefix = flat_map encode w.0; high = last_or 0 cs; low = d; rest = flat_map encode ds; is_high = h; is_low = l; ends = s.joined ∙ ap (flat_map encode) w.1 ∙ forms_last w.0 (last_or 0 cs); begins = e; pair = refl })

-- if one arises, its form replaces both surrogates
pair_join : (a b : List ℕ) (c : ℕ) → IsWtf8 a → IsWtf8 b → (m : IsPairBetween a b c) → IsJoin IsWtf8 units_of a b (m.prefix ++ (encode c ++ m.rest))
pair_join a b c (cs, s) (ds, t) m =
    let h = m.high in
    let l = m.low in
    let u = last_point cs m.prefix h (sym s.joined ∙ m.ends) in
    let v = forms_prefix (l ∷ []) ds m.rest (sym t.joined ∙ m.begins ∙ ap (λ z. z ++ m.rest) (sym (append-nil (encode l)))) in
    let before : Encodes m.prefix u.0 = subst (λ z. Encodes z u.0) u.2 (encodes_prefix u.0 (h ∷ []) (subst (AllByRecursion IsCodePoint) u.1 s.code_points) (subst HasNoSurrogatePair u.1 s.no_pair)) in
    let after : Encodes m.rest v.0 = subst (λ z. Encodes z v.0) v.2 (encodes_suffix (l ∷ []) v.0 (subst (AllByRecursion IsCodePoint) v.1 t.code_points) (subst HasNoSurrogatePair v.1 t.no_pair)) in
    let more = encodes_joined (encode c) m.rest (c ∷ []) v.0 (encodes_one c (omega (arith, m.pair, m.is_high.1, m.is_low.1))) after (may_precede c v.0 (λ q. omega (arith, m.pair, q.1, m.is_high.0))) in
    let k = encodes_joined m.prefix (encode c ++ m.rest) u.0 (c ∷ v.0) before more (λ q r. omega (arith, m.pair, r.1, m.is_high.0)) in (
      (u.0 ++ (c ∷ v.0), k),
      units_of_encoded (m.prefix ++ (encode c ++ m.rest)) (u.0 ++ (c ∷ v.0)) k
          ∙ flat_map-append encode_utf16 u.0 (c ∷ v.0)
          ∙ ap (λ z. units u.0 ++ (z ++ units v.0)) (ap encode_utf16 m.pair ∙ paired_units h l m.is_high m.is_low)
          ∙ sym (append_assoc (units u.0) (h ∷ []) (l ∷ units v.0))
          ∙ ap (λ z. (units u.0 ++ z) ++ (l ∷ units v.0)) (sym (wide_single h (omega (arith, m.is_high.1))))
          ∙ ap (λ z. z ++ (l ∷ units v.0)) (sym (units_last u.0 h) ∙ ap units (sym u.1) ∙ sym (units_of_encoded a cs s))
          ∙ ap (λ z. units_of a ++ (z ++ units v.0)) (sym (wide_single l (omega (arith, m.is_low.1))))
          ∙ ap (λ z. units_of a ++ z) (ap units (sym v.1) ∙ sym (units_of_encoded b ds t)),
    )

-- where a pair arises: both surrogates have six bytes, the form of the pair four
pub record ArePairBytes (a b : List ℕ) (c : ℕ) : Type 0 where
  pub past : 0x1_0000 ≤ c
  pub code_point : IsCodePoint c
  pub high_bytes : 3 ≤ length a
  pub low_bytes : 3 ≤ length b

pub pair_bytes : (a b : List ℕ) (c : ℕ) → IsPairBetween a b c → ArePairBytes a b c
pair_bytes a b c m = grind (arith, nat_tests, common_steps, form_surrogate, high_surrogate, low_surrogate, length-append, m.is_high, m.is_low, m.ends, m.begins)

-- the first string is extended by the second without its first two bytes, and the form of the pair is written over the last three bytes of the first and the byte after them
pub written_join : (a b v w : List ℕ) (c : ℕ) → IsWtf8 a → IsWtf8 b → IsPairBetween a b c → v ≡ a ++ drop 2 b → w ≡ take (length a - 3) v ++ (encode c ++ drop (length a - 3 + 4) v) → IsJoin IsWtf8 units_of a b w
written_join a b v w c s t m e f =
    let x = form_surrogate m.high (high_surrogate m.high m.is_high) in
    let y = form_surrogate m.low (low_surrogate m.low m.is_low) in
    let z = 0x80 + m.low % 0x40 in
    let hs = (0xE0 + m.high / 0x1000) ∷ (0x80 + (m.high / 0x40) % 0x40) ∷ (0x80 + m.high % 0x40) ∷ [] in
    let at : length a - 3 ≡ length m.prefix = omega (arith, ap length m.ends, length-append m.prefix (encode m.high), ap length x) in
    let d : drop 2 b ≡ z ∷ m.rest = ap (drop 2) (m.begins ∙ ap (λ q. q ++ m.rest) y) in
    let g : v ≡ m.prefix ++ (hs ++ z ∷ m.rest) = e ∙ ap (λ q. q ++ drop 2 b) (m.ends ∙ ap (λ q. m.prefix ++ q) x) ∙ ap (λ q. (m.prefix ++ hs) ++ q) d ∙ append_assoc m.prefix hs (z ∷ m.rest) in
    let p : take (length a - 3) v ≡ m.prefix = ap (λ n. take n v) at ∙ ap (take (length m.prefix)) g ∙ take-append_seam m.prefix (hs ++ z ∷ m.rest) in
    let q : drop (length a - 3 + 4) v ≡ m.rest = ap (λ n. drop (n + 4) v) at ∙ ap (drop (length m.prefix + 4)) g ∙ drop-append-add m.prefix (hs ++ z ∷ m.rest) 4 in
    let r : m.prefix ++ (encode c ++ m.rest) ≡ w = sym (f ∙ ap (λ n. n ++ (encode c ++ drop (length a - 3 + 4) v)) p ∙ ap (λ n. m.prefix ++ (encode c ++ n)) q) in
    subst (IsJoin IsWtf8 units_of a b) r (pair_join a b c s t m)
