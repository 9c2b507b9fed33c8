-- Bytes have no more units than bytes.
use Rattle.std.proofs.Common.{◌≡◌, ℕ, ◌+◌, ◌*◌, ◌<◌, ◌≤◌, List, [], ◌∷◌, ◌++◌, length, Result, Ok, Err, subst, sym, ap, ◌∙◌, arith}
use Rattle.std.proofs.lemmas.Bool.Decides.{nat_tests}
use Rattle.std.proofs.lemmas.List.{length-append, length-map, append-nil}
use Rattle.std.specs.List.{flat_map}
use Rattle.wtf8_core.specs.CodePoint.{encode, encode_utf16}
use Rattle.wtf8_core.specs.Wtf8.{units, HasUnits}
use Rattle.wtf8_core.specs.Items.{AreItems, AreUnitItems, unit_items}
use Rattle.wtf8_core.specs.Items.AreItems.{Whole, Faulty}
use Rattle.wtf8_core.specs.declared.fault.EncodingError.{EncodingError}
use Rattle.wtf8_core.proofs.lemmas.reader.FirstErr.{oks}
use Rattle.wtf8_core.proofs.lemmas.reader.Sound.{refused_some}

-- a code point has no more units than bytes
few_units : (c : ℕ) → length (encode_utf16 c) ≤ length (encode c)
unfolding encode_utf16 encode
few_units c = grind (arith, nat_tests)

units_fit : (cs : List ℕ) → length (units cs) ≤ length (flat_map encode cs)
units_fit [] = omega arith
units_fit (c ∷ cs) =
    let u = length-append (encode_utf16 c) (units cs) in
    let b = length-append (encode c) (flat_map encode cs) in
    let first = few_units c in
    let rest = units_fit cs in
    omega arith

oks_length : (us : List ℕ) → length (oks us) ≡ length us
oks_length us = length-map us (λ u. Ok u)

units_of_oks : (cs : List ℕ) (rest : List (Result ℕ EncodingError))
    → length (flat_map unit_items (oks cs ++ rest)) ≡ length (units cs) + length (flat_map unit_items rest)
units_of_oks [] rest = omega arith
units_of_oks (c ∷ cs) rest =
    let all : length (flat_map unit_items (oks (c ∷ cs) ++ rest)) ≡ length (oks (encode_utf16 c)) + length (flat_map unit_items (oks cs ++ rest)) =
    length-append (oks (encode_utf16 c)) (flat_map unit_items (oks cs ++ rest)) in
    let both : length (units (c ∷ cs)) ≡ length (encode_utf16 c) + length (units cs) = length-append (encode_utf16 c) (units cs) in
    let first = oks_length (encode_utf16 c) in
    let others = units_of_oks cs rest in
    omega arith

items_fit : (bytes : List ℕ) (items : List (Result ℕ EncodingError)) → AreItems bytes items → length (flat_map unit_items items) ≤ length bytes
items_fit bytes items (Whole r) =
    let all = ap (λ x. length (flat_map unit_items x)) (r.are ∙ sym (append-nil (oks r.code_points))) ∙ units_of_oks r.code_points [] in
    let joined = ap length r.encoded.joined in
    let fit = units_fit r.code_points in
    omega arith
items_fit bytes items (Faulty {rest = rest} {later = later} r l) =
    let all = ap (λ x. length (flat_map unit_items x)) r.are ∙ units_of_oks r.code_points (Err r.fault ∷ later) in
    let after = items_fit rest later l in
    let rest_is = ap length r.after in
    let before = ap length r.first.encoded.joined in
    let parts = ap length r.first.joined ∙ length-append r.first.before r.first.from in
    let last = ap length r.first.begins.is ∙ length-append r.first.begins.refused r.first.begins.rest in
    let some = refused_some _ _ _ _ r.first.begins.refusal in
    let fit = units_fit r.code_points in
    omega arith

-- where one more unit comes, there are fewer before it than bytes
pub unit_fits : (bytes us : List ℕ) (item : Result ℕ EncodingError) (rest : List (Result ℕ EncodingError))
    → AreUnitItems bytes (oks us ++ item ∷ rest) → length us < length bytes
unit_fits bytes us item rest all =
    let fit : length (oks us ++ item ∷ rest) ≤ length bytes = subst (λ x. length x ≤ length bytes) (sym all.are) (items_fit bytes all.items all.are_items) in
    let parts = length-append (oks us) (item ∷ rest) in
    let before = oks_length us in
    omega arith

-- a code point has at most three bytes for each of its units
few_bytes : (c : ℕ) → length (encode c) ≤ 3 * length (encode_utf16 c)
unfolding encode_utf16 encode
few_bytes c = grind (arith, nat_tests)

forms_fit : (cs : List ℕ) → length (flat_map encode cs) ≤ 3 * length (units cs)
forms_fit [] = omega arith
forms_fit (c ∷ cs) =
    let u = length-append (encode_utf16 c) (units cs) in
    let b = length-append (encode c) (flat_map encode cs) in
    let first = few_bytes c in
    let rest = forms_fit cs in
    omega arith

-- units have at most three bytes each
pub bytes_fit : (bytes us : List ℕ) → HasUnits bytes us → length bytes ≤ 3 * length us
bytes_fit bytes us h =
    let joined = ap length h.encoded.joined in
    let are = ap length h.are in
    let fit = forms_fit h.code_points in
    omega arith
