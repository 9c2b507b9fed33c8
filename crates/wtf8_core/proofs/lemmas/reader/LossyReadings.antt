-- The lossy reading of bytes is the forms of their items, with FFFD for each fault.
use Rattle.wtf8_core.proofs.Common.{nat_tests, common_steps, ◌≡◌, ℕ, suc, List, [], ◌∷◌, ◌++◌, map, length, Result, Err, refl, sym, ap, ◌∙◌, subst, arith, flat_map-append, append-nil, All, flat_map, IsByte, encode, Encodes, IsWtf8, IsFirstFault, AreItems, replacement, EncodingError}
use Rattle.wtf8_core.specs.{Items.AreItems.Whole, Items.AreItems.Faulty, LossyReading.IsLossyReading, LossyReading.lossy_code_point, LossyReading.lossy_forms, LossyReading.IsLossyReading.formed, LossyReading.IsLossyReading.replaced}
use Rattle.wtf8_core.proofs.lemmas.{reader.Complete.one_list_of_items, reader.FirstErr.oks, reader.Sound.some_items, forms.Appending.encodes_one, forms.Appending.encodes_joined, texts.LossyTexts.form_fffd, units.OneToOne.may_precede}

abbrev Items : Type 0
Items = List (Result ℕ EncodingError)

-- the code points that items give, with FFFD for a fault
points_of_oks : (cs : List ℕ) (items : Items) → map lossy_code_point (oks cs ++ items) ≡ cs ++ map lossy_code_point items
points_of_oks [] items = refl
points_of_oks (c ∷ cs) items = ap (λ l. c ∷ l) (points_of_oks cs items)

-- the forms of items that are all Ok, and of items up to a fault and after it
whole_forms : (b cs : List ℕ) → Encodes b cs → lossy_forms (oks cs) ≡ b
whole_forms b cs s = ap (flat_map encode) (ap (map lossy_code_point) (sym (append-nil (oks cs))) ∙ points_of_oks cs [] ∙ append-nil cs) ∙ sym s.joined

faulty_forms : (b cs : List ℕ) (fault : EncodingError) (later : Items) → (f : IsFirstFault b cs fault) → lossy_forms (oks cs ++ Err fault ∷ later) ≡ f.before ++ (replacement ++ lossy_forms later)
faulty_forms b cs fault later f = grind (arith, nat_tests, common_steps, points_of_oks, flat_map-append, form_fffd)

-- the forms of the items are the reading
pub reading_of_items : (b : List ℕ) (items : List (Result ℕ EncodingError)) → AreItems b items → IsLossyReading b (lossy_forms items)
reading_of_items b items (Whole r) = subst (IsLossyReading b) (sym (ap lossy_forms r.are ∙ whole_forms b r.code_points r.encoded)) (formed (r.code_points, r.encoded))
reading_of_items b items (Faulty {rest = rest} {later = later} r l) =
    subst (IsLossyReading b) (sym (ap lossy_forms r.are ∙ faulty_forms b r.code_points r.fault later r.first))
    (replaced r.first (subst (λ x. IsLossyReading x (lossy_forms later)) (sym r.after) (reading_of_items rest later l)))

-- and each reading is that of the items
record OfItems (b reading : List ℕ) : Type 0 where
  items : Items
  are : AreItems b items
  is : reading ≡ lossy_forms items

items_of_reading : (b reading : List ℕ) → IsLossyReading b reading → OfItems b reading
items_of_reading b reading (formed w) = record { items = oks w.0; are = Whole (record { code_points = w.0; encoded = w.1; are = refl }); is = sym (whole_forms b w.0 w.1) }
items_of_reading b reading (replaced {cs = cs} {reading = after} {fault = fault} f l) =
    let w = items_of_reading f.begins.rest after l in
    record {
      items = oks cs ++ Err fault ∷ w.items;
      are = Faulty {rest = f.begins.rest} {later = w.items} (record { code_points = cs; fault = fault; first = f; after = refl; are = refl }) w.are;
      is = ap (λ x. f.before ++ (replacement ++ x)) w.is ∙ sym (faulty_forms b cs fault w.items f);
    }

-- so bytes have one reading
pub one_reading : (b reading other : List ℕ) → IsLossyReading b reading → IsLossyReading b other → reading ≡ other
one_reading b reading other r s = grind (arith, nat_tests, common_steps, items_of_reading, one_list_of_items)

pub some_reading : (b : List ℕ) → All IsByte b → (reading : List ℕ) × IsLossyReading b reading
some_reading b a =
    let w = some_items (suc (length b)) b (omega arith) a in
    (lossy_forms w.0, reading_of_items b w.0 w.1)

-- FFFD makes no pair, so the reading is WTF-8
pub reading_wtf8 : (b reading : List ℕ) → IsLossyReading b reading → IsWtf8 reading
reading_wtf8 b reading (formed w) = w
reading_wtf8 b reading (replaced {cs = cs} {reading = after} f l) =
    let w = reading_wtf8 f.begins.rest after l in
    let one : Encodes replacement (0xFFFD ∷ []) = subst (λ x. Encodes x (0xFFFD ∷ [])) form_fffd (encodes_one 0xFFFD (omega arith)) in
    let more = encodes_joined replacement after (0xFFFD ∷ []) w.0 one w.1 (may_precede 0xFFFD w.0 (λ h. omega (arith, h.1))) in
    (cs ++ 0xFFFD ∷ w.0, encodes_joined f.before (replacement ++ after) cs (0xFFFD ∷ w.0) f.encoded more (λ h l. omega (arith, l.1)))

pub ruleset readings = (some_reading, one_reading, reading_wtf8, formed, reading_of_items)
