-- The function and the relation of units, and units of parts.
use Rattle.wtf8_core.proofs.Common.{◌≡◌, ◌↔◌, ℕ, ◌<◌, ◌^◌, List, ◌++◌, take, drop, map, sym, ap, ◌∙◌, subst, flat_map-append, All, flat_map, All-from_recursion, recursion_from_All, IsCodePoint, encode, encode_utf16, Encodes, IsWtf8, HasUnits, units, IsWtf8LossyText, without_surrogate, ok_values, code_points_in, units_of, wtf8_lossy, IsBoundary, arith, common_steps, nat_tests}
use Rattle.wtf8_core.proofs.lemmas.{reader.Complete.items_if_encoded, reader.FirstErr.ok_values_of_oks, forms.Appending.all_flat_map, units.OneToOne.wide_units, units.OneToOne.IsUnit, units.OneToOne.units_once, units.OneToOne.units_encoded, forms.Cuts.boundary_cut, forms.Cuts.encodes_parts}

-- the function of code points gives those that are encoded
pub code_points_in-encoded : (b cs : List ℕ) → Encodes b cs → code_points_in b ≡ cs
unfolding code_points_in
code_points_in-encoded b cs s = ap ok_values (items_if_encoded b cs s) ∙ ok_values_of_oks cs

-- the function meets the relation
pub has_units_of : (b : List ℕ) → IsWtf8 b → HasUnits b (units_of b)
has_units_of b w = record { code_points = w.0; encoded = w.1; are = ap units (code_points_in-encoded b w.0 w.1) }

-- the same of the lossy text
pub has_lossy_text : (b : List ℕ) → IsWtf8 b → IsWtf8LossyText b (wtf8_lossy b)
has_lossy_text b w = record { code_points = w.0; encoded = w.1; are = ap (λ cs. flat_map encode (map without_surrogate cs)) (code_points_in-encoded b w.0 w.1) }

-- the units are the only ones
pub units_of-is : (b us : List ℕ) → HasUnits b us → units_of b ≡ us
units_of-is b us h = ap units (code_points_in-encoded b h.code_points h.encoded) ∙ sym h.are

-- so the relation says what the function does
pub has_units_exactly : (b us : List ℕ) → HasUnits b us ↔ (IsWtf8 b × (us ≡ units_of b))
has_units_exactly b us = (λ h. ((h.code_points, h.encoded), sym (units_of-is b us h)), λ w. subst (HasUnits b) (sym w.1) (has_units_of b w.0))

-- encoding, by the function
pub one_encoding : (b c : List ℕ) → IsWtf8 b → IsWtf8 c → units_of b ≡ units_of c → b ≡ c
one_encoding b c v w e = units_once b c (units_of c) (subst (HasUnits b) e (has_units_of b v)) (has_units_of c w)

-- and each list of units is that of some bytes
pub some_encoding : (us : List ℕ) → All (λ u. u < 2 ^ 16) us → (b : List ℕ) × (IsWtf8 b × (units_of b ≡ us))
some_encoding us a =
    let s = units_encoded us (recursion_from_All IsUnit us a) in
    (s.0, ((s.1.code_points, s.1.encoded), units_of-is s.0 us s.1))

-- units have 16 bits
pub units_listed : (b : List ℕ) → IsWtf8 b → All (λ u. u < 2 ^ 16) (units_of b)
units_listed b w =
    subst (λ cs. All IsUnit (units cs)) (sym (code_points_in-encoded b w.0 w.1)) (all_flat_map IsCodePoint IsUnit encode_utf16 (λ c h. All-from_recursion IsUnit (encode_utf16 c) (wide_units c h)) w.0 w.1.code_points)

-- the units of two parts
units_parts : (b p q cs ds es : List ℕ) → Encodes b cs → Encodes p ds → Encodes q es → cs ≡ ds ++ es → units_of b ≡ units_of p ++ units_of q
units_parts b p q cs ds es s t u e = grind (arith, nat_tests, common_steps, code_points_in-encoded, flat_map-append)

-- the units of both sides of a boundary
pub units_cut : (b : List ℕ) (i : ℕ) → IsWtf8 b → IsBoundary b i → units_of b ≡ units_of (take i b) ++ units_of (drop i b)
units_cut b i s k =
    let w = boundary_cut b s.0 i s.1.joined k in
    let p = encodes_parts b s.0 _ _ s.1 w in
    units_parts b _ _ s.0 w.prefix w.suffix s.1 p.0 p.1 w.cut
