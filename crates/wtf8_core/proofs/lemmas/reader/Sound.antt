-- Any bytes are forms up to their end or a fault, so the reader's items are those of the definitions.
use Rattle.wtf8_core.proofs.Common.{◌≡◌, ◌⊎◌, inl, inr, ⊎_elim, ℕ, zero, suc, ◌+◌, ◌<◌, ◌≤◌, false, List, [], ◌∷◌, ◌++◌, length, drop, map, Result, Ok, Err, refl, sym, ap, ◌∙◌, subst, arith, append_assoc, length-append, Fits, w8, get_or, drop-append_seam, cases_lt, append-nil, All-drop, All-from_get_or, All, AllByRecursion, flat_map, IsByte, needed_continuations, IsHigh, IsLow, is_high, IsCodePoint, encode, HasNoSurrogatePair, last_or, IsWtf8, IsSequenceStart, IsWholeSequence, sequence_value, BeginsFault, IsFirstFault, AreItems, least_value, after_item, first_item, first_split, IsFirstItem, items_after, EncodingError, Byte, CodePoint, End}
use Rattle.wtf8_core.specs.Items.AreItems.{Whole, Faulty}
use Rattle.wtf8_core.proofs.lemmas.{forms.Ranges.range_cases, forms.Shapes.form_ascii, forms.Shapes.form_bounds, forms.Shapes.shape_is_form, forms.Shapes.no_form, reader.Continuations.Stops, reader.Continuations.split, reader.Reading.split_of_first, reader.Complete.split_of_form, reader.Complete.split_of_fault, reader.Complete.items_if, reader.Continuations.Stops.whole, reader.Continuations.Stops.ends, reader.Continuations.Stops.breaks}
pub use Rattle.wtf8_core.proofs.lemmas.reader.Complete.{refused_some}

-- after the code point p the bytes begin with a form
pub record BeginsForm (p : ℕ) (bs : List ℕ) : Type 0 where
  pub c : ℕ
  pub rest : List ℕ
  pub code_point : IsCodePoint c
  pub free : IsHigh p → IsLow c → ⊥
  pub is : bs ≡ encode c ++ rest

-- with a fault
abbrev SomeFault : ℕ → List ℕ → Type 0
SomeFault p bs = (f : EncodingError) × BeginsFault p bs f

-- a shape is a form or a fault
of_shape : (p b : ℕ) (ks rest : List ℕ) → IsWholeSequence b ks → BeginsForm p (b ∷ ks ++ rest) ⊎ SomeFault p (b ∷ ks ++ rest)
of_shape p b ks rest s =
    ⊎_elim (λ low. bad (inl (no_form b ks s (inl low))))
    (λ least. ⊎_elim (λ high. bad (inl (no_form b ks s (inr high))))
    (λ most. let f = shape_is_form b ks s least in
    let low : IsLow v ⊎ (IsLow v → ⊥) = range_cases _ _ v in
    let high : IsHigh p ⊎ (IsHigh p → ⊥) = range_cases _ _ p in
    let good : (IsHigh p → IsLow v → ⊥) → BeginsForm p (b ∷ ks ++ rest) = λ free. record { c = v; rest = rest; code_point = most; free = free; is = ap (λ l. l ++ rest) (sym f) } in
    ⊎_elim (λ h. ⊎_elim (λ l. bad (inr (f, l, h))) (λ l. inl (good (λ _. l))) low) (λ h. inl (good (λ k _. h k))) high)
    (cases_lt 0x10_FFFF v))
    (cases_lt v (least_value (needed_continuations b)))
  where
    v : ℕ
    v = sequence_value b ks

    bad : ((c : ℕ) → IsCodePoint c → ¬ (encode c ≡ b ∷ ks)) ⊎ ((encode v ≡ b ∷ ks) × IsLow v × IsHigh p) → BeginsForm p (b ∷ ks ++ rest) ⊎ SomeFault p (b ∷ ks ++ rest)
    bad w = inr (CodePoint v, record { refused = b ∷ ks; rest = rest; is = refl; refusal = record { lead = b; after = ks; is = refl; shape = s; value_is = refl; bad = w } })

-- what comes after a lead
of_lead : (p b : ℕ) (ks rest : List ℕ) → IsSequenceStart b ks → Stops (needed_continuations b) ks rest → BeginsForm p (b ∷ ks ++ rest) ⊎ SomeFault p (b ∷ ks ++ rest)
of_lead p b ks rest g (whole e) = of_shape p b ks rest (record { begun = g; whole = e })
of_lead p b ks rest g (ends h) = inr (End, record { refused = b ∷ ks; rest = []; is = refl; refusal = (record { lead = b; after = ks; is = refl; begun = g; short = h }, refl) })
of_lead p b ks rest g (breaks x t h k) =
    inr (Byte x, record { refused = b ∷ ks; rest = x ∷ t; is = refl; refusal = inr (record { begun = record { lead = b; after = ks; is = refl; begun = g; short = h }; after = t; next = refl; breaks = k }) })

-- any byte begins a form or a fault
pub begins : (p b : ℕ) (bs : List ℕ) → IsByte b → BeginsForm p (b ∷ bs) ⊎ SomeFault p (b ∷ bs)
begins p b bs u =
    ⊎_elim (λ h. inl (record { c = b; rest = bs; code_point = omega arith; free = λ i j. omega (arith, j.0); is = ap (λ l. l ++ bs) (sym (form_ascii b h)) }))
    (λ l. ⊎_elim (λ h. inr (Byte b, record { refused = b ∷ []; rest = bs; is = refl; refusal = inl (record { is = refl; stray = (l, omega arith) }) }))
    (λ m. let s = split (needed_continuations b) bs in
    subst (λ x. BeginsForm p (b ∷ x) ⊎ SomeFault p (b ∷ x)) (sym s.is) (of_lead p b s.after s.rest (record { lead_is = (m, omega arith); continued = s.continued }) s.stops))
    (cases_lt b 0xC2))
    (cases_lt b 0x80)

-- forms after the code point p, and where they stop
record Run (p : ℕ) (bs : List ℕ) : Type 0 where
  cs : List ℕ
  from : List ℕ
  points : AllByRecursion IsCodePoint cs
  free : HasNoSurrogatePair (p ∷ cs)
  joined : bs ≡ flat_map encode cs ++ from
  stop : (from ≡ []) ⊎ SomeFault (last_or p cs) from

-- one more form at the start
one_more : (p : ℕ) (bs : List ℕ) → (i : BeginsForm p bs) → Run i.c i.rest → Run p bs
one_more p bs i r = record {
  cs = i.c ∷ r.cs;
  from = r.from;
  points = (i.code_point, r.points);
  free = (i.free, r.free);
  joined = i.is ∙ ap (λ x. encode i.c ++ x) r.joined ∙ sym (append_assoc (encode i.c) (flat_map encode r.cs) r.from);
  stop = r.stop;
}

-- any bytes are a run
run : (n p : ℕ) (bs : List ℕ) → length bs ≤ n → All IsByte bs → Run p bs
run n p [] h a = record { cs = []; from = []; points = tt; free = (tt, tt); joined = refl; stop = inl refl }
run zero p (b ∷ bs) h a = absurd (omega arith)
run (suc n) p (b ∷ bs) h a = ⊎_elim (more (λ q r. run n q r)) (λ f. record { cs = []; from = b ∷ bs; points = tt; free = (tt, tt); joined = refl; stop = inr f }) (begins p b bs (a 0 0 (omega arith)))
  where
    more : ((q : ℕ) (rest : List ℕ) → length rest ≤ n → All IsByte rest → Run q rest) → BeginsForm p (b ∷ bs) → Run p (b ∷ bs)
    more go i =
        let l = form_bounds i.c in
        let e : length (b ∷ bs) ≡ length (encode i.c) + length i.rest = ap length i.is ∙ length-append (encode i.c) i.rest in
        one_more p (b ∷ bs) i (go i.c i.rest (omega arith) (subst (All IsByte) (ap (drop (length (encode i.c))) i.is ∙ drop-append_seam (encode i.c) i.rest) (All-drop IsByte (length (encode i.c)) (b ∷ bs) a)))

-- bytes are WTF-8 or have a first fault
pub either : (bs : List ℕ) → All IsByte bs → IsWtf8 bs ⊎ ((cs : List ℕ) × (f : EncodingError) × IsFirstFault bs cs f)
either bs a =
    let r = run (length bs) 0 bs (omega arith) a in
    ⊎_elim (λ e. inl (r.cs, record { code_points = r.points; no_pair = r.free.1; joined = r.joined ∙ ap (λ x. flat_map encode r.cs ++ x) e ∙ append-nil (flat_map encode r.cs) }))
    (λ w. inr (r.cs, w.0, record { before = flat_map encode r.cs; from = r.from; joined = r.joined; encoded = record { code_points = r.points; no_pair = r.free.1; joined = refl }; begins = w.1 }))
    r.stop

-- what follows a fault is shorter than the bytes, and is bytes, too
pub after_fault : (bs cs : List ℕ) (f : EncodingError) → (s : IsFirstFault bs cs f) → (length s.begins.rest < length bs) × (All IsByte bs → All IsByte s.begins.rest)
after_fault bs cs f s =
    let prefix = s.before ++ s.begins.refused in
    let e : bs ≡ prefix ++ s.begins.rest = s.joined ∙ ap (λ x. s.before ++ x) s.begins.is ∙ sym (append_assoc s.before s.begins.refused s.begins.rest) in
    let l = ap length e ∙ length-append prefix s.begins.rest in
    let m = length-append s.before s.begins.refused in
    let n = refused_some _ _ _ f s.begins.refusal in
    (omega arith, λ a. subst (All IsByte) (ap (drop (length prefix)) e ∙ drop-append_seam prefix s.begins.rest) (All-drop IsByte (length prefix) bs a))

-- some list of items is that of the bytes, which are fewer than n
pub some_items : (n : ℕ) (bs : List ℕ) → length bs < n → All IsByte bs → (items : List (Result ℕ EncodingError)) × AreItems bs items
some_items zero bs h a = absurd (omega (arith, h))
some_items (suc n) bs h a =
    ⊎_elim (λ w. (map Ok w.0, Whole (record { code_points = w.0; encoded = w.1; are = refl })))
    (λ w. let q = after_fault bs w.0 w.1 w.2 in
    let later = some_items n w.2.begins.rest (omega (arith, h, q.0)) (q.1 a) in
    (map Ok w.0 ++ Err w.1 ∷ later.0, Faulty {rest = w.2.begins.rest} {later = later.0} (record { code_points = w.0; fault = w.1; first = w.2; after = refl; are = refl }) later.1))
    (either bs a)

-- the reader's items are those of the definitions
pub items_of_bytes : (bs : List ℕ) → All IsByte bs → AreItems bs (items_after false bs)
items_of_bytes bs a =
    let w = some_items (suc (length bs)) bs (omega arith) a in
    subst (AreItems bs) (sym (items_if bs w.0 w.1)) w.1

pub items_sound : (bs : List ℕ) → ((i : ℕ) → Fits w8 (get_or bs i 0)) → AreItems bs (items_after false bs)
items_sound bs h = items_of_bytes bs (All-from_get_or IsByte bs 0 (λ i _. omega (arith, h i)))

-- what bytes begin with after the code point p, where this is read: the form of a code point, or a fault
abbrev pub Begins : ℕ → List ℕ → Result ℕ EncodingError × List ℕ → Type 0
Begins p bs (Ok c, rest) = IsCodePoint c × (IsHigh p → IsLow c → ⊥) × (bs ≡ encode c ++ rest)
Begins p bs (Err f, rest) = (s : BeginsFault p bs f) × (s.rest ≡ rest)

begins_split : (p b : ℕ) (bs : List ℕ) → IsByte b → Begins p (b ∷ bs) (first_split (is_high p) (b ∷ bs))
begins_split p b bs u = ⊎_elim
    (λ i. subst (Begins p (b ∷ bs)) (sym (ap (first_split (is_high p)) i.is ∙ split_of_form p i.c i.rest i.code_point i.free)) (i.code_point, i.free, i.is))
    (λ f. subst (Begins p (b ∷ bs)) (sym (split_of_fault p (b ∷ bs) f.0 f.1)) (f.1, refl))
    (begins p b bs u)

pub begins_item : (p : ℕ) (bs rest : List ℕ) (item : Result ℕ EncodingError) → All IsByte bs → IsFirstItem (is_high p) bs item rest → Begins p bs (item, rest)
begins_item p bs rest item a i =
    let e = split_of_first (is_high p) bs rest item i in
    subst (Begins p bs) e (subst (λ z. Begins p z (first_split (is_high p) z)) (sym i.is) (begins_split p i.first i.after (subst (All IsByte) i.is a 0 0 (omega arith))))

-- so at the start
pub split_code_point : (b c : ℕ) (bs : List ℕ) → IsByte b → first_item false b bs ≡ Ok c → (rest : List ℕ) × IsCodePoint c × (b ∷ bs ≡ encode c ++ rest)
split_code_point b c bs u e =
    let w : Begins 0 (b ∷ bs) (Ok c, drop (after_item b bs) bs) = subst (λ r. Begins 0 (b ∷ bs) (r, drop (after_item b bs) bs)) e (begins_split 0 b bs u) in
    (drop (after_item b bs) bs, w.0, w.2)
