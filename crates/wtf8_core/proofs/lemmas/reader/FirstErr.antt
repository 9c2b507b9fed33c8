-- What a caller that stops at the first `Err` knows. None of these statements is about what comes after that `Err`.
use Rattle.wtf8_core.proofs.Common.{arith, nat_tests, common_steps, ◌≡◌, ℕ, List, [], ◌∷◌, ◌++◌, map, Result, Ok, Err, refl, sym, ap, ◌∙◌, subst, append_assoc, AllByRecursion, flat_map, append-nil, map-append, IsCodePoint, encode_utf16, HasUnits, units, Encodes, IsFirstFault, AreItems, AreUnitItems, unit_items, ok_values, EncodingError}
use Rattle.wtf8_core.specs.{Items.AreItems.Whole, Items.AreItems.Faulty, Encoder.IsCodePointItem}

-- an item of bytes
abbrev Item : Type 0
Item = Result ℕ EncodingError

-- items that are all code points
abbrev pub oks : List ℕ → List (Result ℕ EncodingError)
oks cs = map Ok cs

-- items that are all Ok have no fault
pub no_err : (cs ds : List ℕ) (f : EncodingError) (later : List Item) → oks cs ≡ oks ds ++ Err f ∷ later → ⊥
no_err [] [] f l e = cc
no_err (c ∷ cs) (d ∷ ds) f l e = no_err cs ds f l (cc)
no_err cs ds f l e = cc

-- a list determines the items before its first fault, and that fault
pub same_faulty : (cs ds : List ℕ) (f g : EncodingError) (l m : List Item) → oks cs ++ Err f ∷ l ≡ oks ds ++ Err g ∷ m → (cs ≡ ds) × (f ≡ g) × (l ≡ m)
same_faulty [] [] f g l m e = (refl, cc, cc)
same_faulty (c ∷ cs) (d ∷ ds) f g l m e = let u = same_faulty cs ds f g l m (cc) in (cc (u.0), u.1, u.2)
same_faulty cs ds f g l m e = cc

-- the values of items that are all Ok, which the items determine
pub ok_values_of_oks : (cs : List ℕ) → ok_values (map Ok cs) ≡ cs
ok_values_of_oks [] = refl
ok_values_of_oks (c ∷ cs) = ap (λ l. c ∷ l) (ok_values_of_oks cs)

pub same_oks : (cs ds : List ℕ) → oks cs ≡ oks ds → cs ≡ ds
same_oks cs ds e = sym (ok_values_of_oks cs) ∙ ap ok_values e ∙ ok_values_of_oks ds

-- one more item was Ok: for the invariant of a loop
pub one_more_ok : (cs : List ℕ) (c : ℕ) (rest : List (Result ℕ EncodingError)) → oks cs ++ Ok c ∷ rest ≡ oks (cs ++ c ∷ []) ++ rest
one_more_ok [] c rest = refl
one_more_ok (x ∷ cs) c rest = ap (λ l. Ok x ∷ l) (one_more_ok cs c rest)

-- items that are all Ok are the code points of bytes
pub items_all_ok : (bytes cs : List ℕ) → AreItems bytes (oks cs) → Encodes bytes cs
items_all_ok bytes cs (Whole r) = subst (Encodes bytes) (same_oks r.code_points cs (sym r.are)) r.encoded
items_all_ok bytes cs (Faulty {later = later} r l) = absurd (no_err cs r.code_points r.fault later r.are)

-- the first Err is the first fault
pub items_first_err : (bytes cs : List ℕ) (f : EncodingError) (rest : List (Result ℕ EncodingError)) → AreItems bytes (oks cs ++ Err f ∷ rest) → IsFirstFault bytes cs f
items_first_err bytes cs f rest (Whole r) = absurd (no_err r.code_points cs f rest (sym r.are))
items_first_err bytes cs f rest (Faulty {later = later} r l) = grind (arith, nat_tests, common_steps, same_faulty)

-- the same for units
units_of_oks : (cs : List ℕ) (rest : List Item) → flat_map unit_items (oks cs ++ rest) ≡ oks (units cs) ++ flat_map unit_items rest
units_of_oks [] rest = refl
units_of_oks (c ∷ cs) rest =
    ap (λ l. oks (encode_utf16 c) ++ l) (units_of_oks cs rest)
    ∙ sym (append_assoc (oks (encode_utf16 c)) (oks (units cs)) (flat_map unit_items rest))
    ∙ ap (λ l. l ++ flat_map unit_items rest) (sym (map-append Ok (encode_utf16 c) (units cs)))

-- the units of items that are all Ok
pub units_whole : (cs : List ℕ) (items : List Item) → items ≡ oks cs → flat_map unit_items items ≡ oks (units cs)
units_whole cs items e = ap (flat_map unit_items) (e ∙ sym (append-nil (oks cs))) ∙ units_of_oks cs [] ∙ append-nil (oks (units cs))

units_all : (bytes us : List ℕ) (items : List Item) → AreItems bytes items → oks us ≡ flat_map unit_items items → HasUnits bytes us
units_all bytes us items (Whole r) e = record { code_points = r.code_points; encoded = r.encoded; are = same_oks us (units r.code_points) (e ∙ units_whole r.code_points items r.are) }
units_all bytes us items (Faulty {later = later} r l) e = grind (arith, nat_tests, common_steps, no_err, units_of_oks)

-- bytes whose unit items are all Ok have these units
pub units_all_ok : (bytes us : List ℕ) → AreUnitItems bytes (oks us) → HasUnits bytes us
units_all_ok bytes us w = units_all bytes us w.items w.are_items w.are

-- the code points before the first fault, and their units
pub record UnitsBefore (bytes us : List ℕ) (f : EncodingError) : Type 0 where
  pub code_points : List ℕ
  pub first : IsFirstFault bytes code_points f
  pub are : us ≡ units code_points

units_err : (bytes us : List ℕ) (f : EncodingError) (rest items : List Item) → AreItems bytes items → oks us ++ Err f ∷ rest ≡ flat_map unit_items items → UnitsBefore bytes us f
units_err bytes us f rest items (Whole r) e = absurd (no_err (units r.code_points) us f rest (sym (e ∙ units_whole r.code_points items r.are)))
units_err bytes us f rest items (Faulty {later = later} r l) e = grind (arith, nat_tests, common_steps, same_faulty, units_of_oks)

-- the units before the first Err, and its fault
pub units_first_err : (bytes us : List ℕ) (f : EncodingError) (rest : List (Result ℕ EncodingError)) → AreUnitItems bytes (oks us ++ Err f ∷ rest) → UnitsBefore bytes us f
units_first_err bytes us f rest w = units_err bytes us f rest w.items w.are_items w.are

-- items that are code points, and so those of bytes
oks_are_code_points : (cs : List ℕ) (rest : List Item) → AllByRecursion IsCodePoint cs → AllByRecursion IsCodePointItem rest → AllByRecursion IsCodePointItem (oks cs ++ rest)
oks_are_code_points [] rest a h = h
oks_are_code_points (c ∷ cs) rest a h = (a.0, oks_are_code_points cs rest a.1 h)

pub items_are_code_points : (bytes : List ℕ) (items : List Item) → AreItems bytes items → AllByRecursion IsCodePointItem items
items_are_code_points bytes items (Whole r) =
    subst (AllByRecursion IsCodePointItem) (sym (r.are ∙ sym (append-nil (oks r.code_points)))) (oks_are_code_points r.code_points [] r.encoded.code_points tt)
items_are_code_points bytes items (Faulty {rest = rest} {later = later} r l) =
    subst (AllByRecursion IsCodePointItem) (sym r.are) (oks_are_code_points r.code_points (Err r.fault ∷ later) r.first.encoded.code_points (tt, items_are_code_points rest later l))
