-- How many bytes units have, by counts of units and of pairs.
use Rattle.platform_str.proofs.Common.{◌≡◌, ℕ, zero, suc, ◌+◌, ◌*◌, ◌≤◌, ◌<◌, Bool, cond, eqb, leb, List, [], ◌∷◌, length, length-append, take, drop, refl, ap, ◌∙◌, arith, cond_both, nat_tests, length-take, sum_by-cons, count_by-le-length, AllByRecursion, flat_map, count_by, IsHigh, IsLow, is_pair, paired, encode, form_past, HasUnits, IsUnit, units_once, encoded_units, begins_pair, pairs}
use Rattle.platform_str.proofs.lemmas.LaneTests.{six_and_six, sixes}
use Rattle.wtf8_core.specs.Decoder.{code_points_of}

-- one byte for each unit, one more for each from 80 on, one more for each from 800 on
abbrev pub counted : List ℕ → ℕ
counted us = length us + (count_by (leb 0x80) us + count_by (leb 0x800) us)

-- of one unit
abbrev pub counted_one : ℕ → ℕ
counted_one u = 1 + (cond (leb 0x80 u) 1 0 + cond (leb 0x800 u) 1 0)

-- the first of the units
count_first : (p : ℕ → Bool) (u : ℕ) (us : List ℕ) → count_by p (u ∷ us) ≡ cond (p u) 1 0 + count_by p us
count_first p u us = sum_by-cons (λ x. cond (p x) 1 0) u us

counted_first : (u : ℕ) (us : List ℕ) → counted (u ∷ us) ≡ counted_one u + counted us
counted_first u us = omega (arith, count_first (leb 0x80) u us, count_first (leb 0x800) u us)

three_from : (u : ℕ) → 0x800 ≤ u → counted_one u ≡ 3
three_from u h = grind (arith, nat_tests)

form_one : (u : ℕ) → IsUnit u → length (encode u) ≡ counted_one u
unfolding encode
form_one u i = grind (arith, nat_tests)

no_pair_after_low : (v : ℕ) (us : List ℕ) → 0xDC00 ≤ v → begins_pair v us ≡ 0
no_pair_after_low v [] h = refl
no_pair_after_low v (w ∷ us) h = grind (arith, nat_tests)

-- two less for each pair
pub all_counted : (us : List ℕ) → AllByRecursion IsUnit us → length (flat_map encode (code_points_of us)) + 2 * pairs us ≡ counted us
unfolding code_points_of
all_counted [] a = refl
all_counted (u ∷ []) a = omega (arith, form_one u a.0, length-append (encode u) [])
all_counted (u ∷ v ∷ us) a =
    cond_both (is_pair u v) _ _ (λ cs. length (flat_map encode cs) + 2 * pairs (u ∷ v ∷ us) ≡ counted (u ∷ v ∷ us))
    (λ e.
    let h : IsHigh u × IsLow v = grind (arith, nat_tests) in
    let one : begins_pair u (v ∷ us) ≡ 1 = ap (λ t. cond t 1 0) e in
    omega (arith, length-append (encode (paired u v)) (flat_map encode (code_points_of us)), ap length (form_past (paired u v) (omega arith)), one, no_pair_after_low v us h.1.0, counted_first u (v ∷ us), counted_first v us, three_from u (omega (arith, h.0.0)), three_from v (omega (arith, h.1.0)), all_counted us a.1.1))
    (λ e.
    let none : begins_pair u (v ∷ us) ≡ 0 = ap (λ t. cond t 1 0) e in
    omega (arith, length-append (encode u) (flat_map encode (code_points_of (v ∷ us))), form_one u a.0, none, counted_first u (v ∷ us), all_counted (v ∷ us) a.1))

-- so this is the length of a string with these units
pub string_counted : (string us : List ℕ) → AllByRecursion IsUnit us → HasUnits string us → length string + 2 * pairs us ≡ counted us
string_counted string us a h = ap (λ b. length b + 2 * pairs us) (units_once string _ us h (encoded_units us a)) ∙ all_counted us a

-- the first n units
pub counted_prefix : (n : ℕ) (us : List ℕ) → n ≤ length us → n + (count_by (leb 0x80) (take n us) + count_by (leb 0x800) (take n us)) + counted (drop n us) ≡ counted us
counted_prefix zero us h = omega arith
counted_prefix (suc n) [] h = absurd (omega arith)
counted_prefix (suc n) (u ∷ us) h = omega (arith, count_first (leb 0x80) u (take n us), count_first (leb 0x800) u (take n us), counted_first u us, counted_prefix n us (omega arith))

pub lane_is_pair : (u v : ℕ) → IsUnit u → IsUnit v → eqb (six_and_six u v) 3511 ≡ is_pair u v
lane_is_pair u v h k = grind (arith, nat_tests)

pub pairs_prefix : (n : ℕ) (us : List ℕ) → n < length us → AllByRecursion IsUnit us → count_by (λ x. eqb x 3511) (sixes n (take n us) (take n (drop 1 us))) + pairs (drop n us) ≡ pairs us
pairs_prefix zero us h a = omega arith
pairs_prefix (suc n) (u ∷ v ∷ us) h a =
    let one : cond (eqb (six_and_six u v) 3511) 1 0 ≡ begins_pair u (v ∷ us) = ap (λ t. cond t 1 0) (lane_is_pair u v a.0 a.1.0) in
    omega (arith, one, count_first (λ x. eqb x 3511) (six_and_six u v) (sixes n (take n (v ∷ us)) (take n us)), pairs_prefix n (v ∷ us) (omega arith) a.1)
pairs_prefix n us h a = absurd (omega arith)

-- at most three bytes for a unit, and at most as many pairs as units
pub counted_few : (us : List ℕ) → counted us ≤ 3 * length us
counted_few us = omega (arith, count_by-le-length (leb 0x80) us, count_by-le-length (leb 0x800) us)

begins_few : (u : ℕ) (us : List ℕ) → begins_pair u us ≤ 1
begins_few u [] = omega arith
begins_few u (v ∷ us) = grind (arith, nat_tests)

pub pairs_few : (us : List ℕ) → pairs us ≤ length us
pairs_few [] = omega arith
pairs_few (u ∷ us) = omega (arith, begins_few u us, pairs_few us)

-- the counts of the first n units are at most n
pub count_few : (n y : ℕ) (us : List ℕ) → count_by (leb y) (take n us) ≤ n
count_few n y us = omega (arith, count_by-le-length (leb y) (take n us), length-take n us)

-- of no units
pub counted_none : (us : List ℕ) → length us < 1 → (counted us ≡ 0) × (pairs us ≡ 0)
counted_none [] h = (refl, refl)
counted_none (u ∷ us) h = absurd (omega arith)

-- none if all of the first n units are below 0x800
begins_none_below : (u : ℕ) (us : List ℕ) → u < 0x800 → begins_pair u us ≡ 0
begins_none_below u [] h = refl
begins_none_below u (v ∷ us) h = grind (arith, nat_tests)

pub pairs_below : (n : ℕ) (us : List ℕ) → count_by (leb 0x800) (take n us) ≡ 0 → pairs (drop n us) ≡ pairs us
pairs_below (suc n) (u ∷ us) e =
    let first = count_first (leb 0x800) u (take n us) in
    let low : u < 0x800 = grind (arith, nat_tests, first, e) in
    omega (arith, begins_none_below u us low, pairs_below n us (omega (arith, first, e)))
pairs_below n us e = refl
