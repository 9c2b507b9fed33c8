-- The first and the last unit of a string.
use Rattle.wtf8_core.proofs.Common.{drop_all, ◌≡◌, ⊎_elim, ℕ, ◌+◌, ◌-◌, ◌*◌, ◌/◌, ◌%◌, ◌<◌, ◌≤◌, List, [], ◌∷◌, ◌++◌, length, take, drop, map, Result, Ok, Err, refl, sym, ap, ◌∙◌, subst, arith, append_assoc, length-append, length-drop, take-append-drop, get_or, eqb, cases_lt, eqb-true, eq-eqb, nat_tests, IsTrue, flat_map, IsLow, IsSurrogate, high_unit, low_unit, encode, encode_utf16, units, IsWtf8, units_of, AreItems, AreUnitItems, unit_items, IsPrefix, IsSuffix, EncodingError, common_steps}
use Rattle.wtf8_core.specs.Items.AreItems.{Whole, Faulty}
use Rattle.wtf8_core.proofs.lemmas.{forms.Shapes.form_past, forms.Ranges.low_surrogate, reader.Complete.never_both, reader.FirstErr.units_whole, units.OneToOne.wide_single, units.OneToOne.wide_pair, characters.FourBytes.four_first, forms.Cuts.cut_before, occurrence.Wtf8.units_of_encoded, forms.LastForms.at_end, forms.LastForms.at_last, forms.LastForms.form_at_end, forms.LastForms.no_points, forms.LastForms.last_point, forms.LastForms.forms_last, forms.LastForms.units_last}

-- the last unit, by the last code point
last_is : (xs ys : List ℕ) (a b : ℕ) → xs ++ a ∷ [] ≡ ys ++ b ∷ [] → a ≡ b
last_is xs ys a b e = let r : a ∷ [] ≡ b ∷ [] = sym (at_end (xs ++ a ∷ []) xs (a ∷ []) refl) ∙ at_end (xs ++ a ∷ []) ys (b ∷ []) e in cc

-- units that end with one unit
pub one_last : (us vs : List ℕ) (u l : ℕ) → vs ≡ us ++ u ∷ [] → (u ≡ l → IsSuffix (l ∷ []) vs) × (IsSuffix (l ∷ []) vs → u ≡ l)
one_last us vs u l v = (λ q. record { rest = us; joined = v ∙ ap (λ z. us ++ z ∷ []) q }, λ f. last_is us f.rest u l (sym v ∙ f.joined))

pub surrogate_last : (s x : List ℕ) (c : ℕ) → IsWtf8 s → IsSurrogate c → s ≡ x ++ encode c → (us : List ℕ) × (units_of s ≡ us ++ c ∷ [])
surrogate_last s x c (cs, w) i e =
    let r = last_point cs x c (sym w.joined ∙ e) in
    (units r.0, units_of_encoded s cs w ∙ ap units r.1 ∙ units_last r.0 c ∙ ap (λ z. units r.0 ++ z) (wide_single c (omega (arith, i.1))))

-- the code point past FFFF of which four bytes are the form
record IsPastForm (back : List ℕ) (d e c : ℕ) : Type 0 where
  only : back ≡ c ∷ []
  past : 0x1_0000 ≤ c
  third : d ≡ 0x80 + (c / 0x40) % 0x40
  fourth : e ≡ 0x80 + c % 0x40

-- a byte from F0 on leads no other
past_lead : (c : ℕ) (rest : List ℕ) (a : ℕ) (bs : List ℕ) → 0xF0 ≤ a → encode c ++ rest ≡ a ∷ bs → 0x1_0000 ≤ c
unfolding encode
past_lead c rest a bs h e = grind (arith, nat_tests)

-- four bytes that F0 or more leads are one form
four_bytes : (back : List ℕ) (a b d e : ℕ) → 0xF0 ≤ a → flat_map encode back ≡ a ∷ b ∷ d ∷ e ∷ [] → (c : ℕ) × IsPastForm back d e c
four_bytes [] a b d e h k = cc
four_bytes (c ∷ cs) a b d e h k =
    let q : 0x1_0000 ≤ c = past_lead c (flat_map encode cs) a (b ∷ d ∷ e ∷ []) h k in
    let w = ap (λ z. z ++ flat_map encode cs) (sym (form_past c q)) ∙ k in
    let r : flat_map encode cs ≡ [] = cc in
    (c, record { only = ap (λ z. c ∷ z) (no_points cs r); past = q; third = cc; fourth = cc })

-- the last unit of a string that ends with four bytes from F0 on
pub half_last : (s x : List ℕ) (a b d e : ℕ) → IsWtf8 s → 0xF0 ≤ a → s ≡ x ++ (a ∷ b ∷ d ∷ e ∷ []) → (us : List ℕ) × (units_of s ≡ us ++ (0xDC00 + (d % 0x10) * 0x40 + e % 0x40) ∷ [])
half_last s x a b d e (cs, w) h k =
    let r = cut_before cs x a (b ∷ d ∷ e ∷ []) (λ i. omega (arith, i.1)) (sym w.joined ∙ k) in
    let p = four_bytes r.suffix a b d e h r.suffix_is in
    let c = p.0 in
    let high = high_unit c in
    let low : low_unit c ≡ 0xDC00 + (d % 0x10) * 0x40 + e % 0x40 = omega (arith, p.1.past, p.1.third, p.1.fourth) in (
      units r.prefix ++ high ∷ [],
      units_of_encoded s cs w ∙ ap units (r.cut ∙ ap (λ z. r.prefix ++ z) p.1.only) ∙ units_last r.prefix c ∙ ap (λ z. units r.prefix ++ z) (wide_pair c p.1.past) ∙ sym (append_assoc (units r.prefix) (high ∷ []) (low_unit c ∷ [])) ∙ ap (λ z. (units r.prefix ++ high ∷ []) ++ z ∷ []) low,
    )

-- four last bytes
four_items : (last : List ℕ) → length last ≡ 4 → last ≡ get_or last 0 0 ∷ get_or last 1 0 ∷ get_or last 2 0 ∷ get_or last 3 0 ∷ []
four_items last h = four_first last (omega (arith, h)) ∙ ap (λ z. get_or last 0 0 ∷ get_or last 1 0 ∷ get_or last 2 0 ∷ get_or last 3 0 ∷ z) (drop_all 4 last (omega (arith, h)))

pub half_of : (s last : List ℕ) → IsWtf8 s → 4 ≤ length s → last ≡ drop (length s - 4) s → 0xF0 ≤ get_or last 0 0 → (us : List ℕ) × (units_of s ≡ us ++ (0xDC00 + (get_or last 2 0 % 0x10) * 0x40 + get_or last 3 0 % 0x40) ∷ [])
half_of s last w l e h =
    let m : length last ≡ 4 = ap length e ∙ length-drop (length s - 4) s ∙ omega arith in
    half_last s (take (length s - 4) s) (get_or last 0 0) (get_or last 1 0) (get_or last 2 0) (get_or last 3 0) w h
    (sym (take-append-drop (length s - 4) s) ∙ ap (λ z. take (length s - 4) s ++ z) (sym e ∙ four_items last m))

-- bytes whose fourth last is below F0 end with no form past FFFF
pub no_past_form : (s last prefix : List ℕ) (c : ℕ) → last ≡ drop (length s - 4) s → 0x1_0000 ≤ c → s ≡ prefix ++ encode c → get_or last 0 0 < 0xF0 → ⊥
no_past_form s last prefix c e h f i = grind (arith, nat_tests, common_steps, form_at_end, form_past)

-- a string that ends with neither has no low surrogate as its last unit
pub no_low_suffix : (s : List ℕ) (l : ℕ) → IsWtf8 s → IsLow l
    → ((x : List ℕ) (c : ℕ) → IsSurrogate c → s ≡ x ++ encode c → ⊥)
    → ((x : List ℕ) (c : ℕ) → 0x1_0000 ≤ c → s ≡ x ++ encode c → ⊥)
    → IsSuffix (l ∷ []) (units_of s) → ⊥
no_low_suffix s l (cs, w) i n m f = at cs w.joined (sym (units_of_encoded s cs w) ∙ f.joined)
  where
    last_case : (ds : List ℕ) (d : ℕ) → s ≡ flat_map encode ds ++ encode d → units ds ++ encode_utf16 d ≡ f.rest ++ l ∷ [] → ⊥
    last_case ds d e u =
        ⊎_elim
        (λ h. let q : d ≡ l = last_is (units ds) f.rest d l (ap (λ z. units ds ++ z) (sym (wide_single d h)) ∙ u) in n (flat_map encode ds) d (subst IsSurrogate (sym q) (low_surrogate l i)) e)
        (λ h. m (flat_map encode ds) d h e)
        (cases_lt d 0x1_0000)

    at : (cs : List ℕ) → s ≡ flat_map encode cs → units cs ≡ f.rest ++ l ∷ [] → ⊥
    at [] w u = omega (arith, ap length u, length-append f.rest (l ∷ []))
    at (c ∷ cs) w u =
        let r = at_last 0 c cs in
        last_case r.0 _ (w ∙ ap (flat_map encode) r.1 ∙ forms_last r.0 _) (sym (units_last r.0 _) ∙ ap units (sym r.1) ∙ u)

abbrev Item : Type 0
Item = Result ℕ EncodingError

-- the items of the units of WTF-8 are its units
items_of_units : (b : List ℕ) (items : List Item) → IsWtf8 b → AreUnitItems b items → items ≡ map Ok (units_of b)
items_of_units b items w a = by a.items a.are_items a.are
  where
    by : (points : List Item) → AreItems b points → items ≡ flat_map unit_items points → items ≡ map Ok (units_of b)
    by points (Whole r) e = e ∙ units_whole r.code_points points r.are ∙ ap (map Ok) (sym (units_of_encoded b r.code_points r.encoded))
    by points (Faulty r l) e = absurd (never_both b w.0 r.code_points r.fault w.1 r.first)

-- so the first item tells the first unit
pub no_first_item : (b : List ℕ) (u : ℕ) (items : List Item) → IsWtf8 b → AreUnitItems b items → items ≡ [] → IsPrefix (u ∷ []) (units_of b) → ⊥
no_first_item b u items w a e f = let q : items ≡ Ok u ∷ map Ok f.rest = items_of_units b items w a ∙ ap (map Ok) f.joined in cc

pub first_item_err : (b : List ℕ) (u : ℕ) (items rest : List Item) (x : Item) (fault : EncodingError) → IsWtf8 b → AreUnitItems b items → items ≡ x ∷ rest → x ≡ Err fault → IsPrefix (u ∷ []) (units_of b) → ⊥
first_item_err b u items rest x fault w a e i f = let q : items ≡ Ok u ∷ map Ok f.rest = items_of_units b items w a ∙ ap (map Ok) f.joined in cc

first_is : (us : List ℕ) (u : ℕ) (rest : List Item) → map Ok us ≡ Ok u ∷ rest → (vs : List ℕ) × (us ≡ u ∷ vs)
first_is [] u rest e = cc
first_is (v ∷ us) u rest e = let k : v ≡ u = cc in (us, ap (λ z. z ∷ us) k)

pub first_item_ok : (b : List ℕ) (v u : ℕ) (items rest : List Item) (x : Item) → IsWtf8 b → AreUnitItems b items → items ≡ x ∷ rest → x ≡ Ok v → (IsTrue (eqb v u) → IsPrefix (u ∷ []) (units_of b)) × (IsPrefix (u ∷ []) (units_of b) → IsTrue (eqb v u))
first_item_ok b v u items rest x w a e i =
    let r = first_is (units_of b) v rest (sym (items_of_units b items w a) ∙ e ∙ ap (λ z. z ∷ rest) i) in
    (λ t. record { rest = r.0; joined = r.1 ∙ ap (λ z. z ∷ r.0) (eqb-true v u t) }, λ f. let q : v ∷ r.0 ≡ u ∷ f.rest = sym r.1 ∙ f.joined in let k : v ≡ u = cc in eq-eqb v u k)
