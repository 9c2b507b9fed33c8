-- The reader gives what the definitions say, whatever the bytes begin with: so bytes have one list of items.
use Rattle.wtf8_core.proofs.Common.{common_steps, ◌≡◌, inl, inr, ⊎_elim, ℕ, suc, ◌⊎◌, ◌<◌, ◌≤◌, Bool, false, List, [], ◌∷◌, ◌++◌, length, map, Result, Ok, Err, refl, sym, ap, ◌∙◌, subst, arith, append_assoc, append-nil, cases_lt, nat_tests, AllByRecursion, flat_map, needed_continuations, IsHigh, IsLow, is_high, IsCodePoint, encode, HasNoSurrogatePair, last_or, Encodes, IsWholeSequence, sequence_value, IsIncomplete, IsBadSequence, IsRefused, BeginsFault, IsFirstFault, lead_bits, least_value, checked_value, items_skipping, items_after, first_split, split_within, items_from, true, ◌-◌, length-append, AreItems, EncodingError, Byte, CodePoint, End, Utf8}
use Rattle.wtf8_core.specs.Items.AreItems.{Whole, Faulty}
use Rattle.wtf8_core.proofs.lemmas.{reader.FirstErr.same_oks, reader.FirstErr.no_err, reader.FirstErr.same_faulty, reader.Reading.split-ascii, reader.Reading.split-stray, reader.Reading.split-lead, reader.Reading.within-broken, reader.Reading.within-end, reader.Reading.within-whole, reader.Reading.items-split, reader.Continuations.within_all, forms.Ranges.in_range, forms.Ranges.in_range-true, forms.Shapes.form_ascii, forms.Shapes.form_bounds, forms.Shapes.form_parts, forms.Shapes.shape_is_form, forms.Shapes.long_shape, forms.Shapes.long_value}

-- what the reader says of a value
pub when_good : (h : Bool) (n v : ℕ) → least_value n ≤ v → v ≤ 0x10_FFFF → (h ≡ true → IsLow v → ⊥) → checked_value h n v ≡ Ok v
unfolding checked_value
when_good h n v low high free = grind (arith, nat_tests, free)

pub when_bad : (h : Bool) (n v : ℕ) → (v < least_value n) ⊎ ((0x10_FFFF < v) ⊎ ((h ≡ true) × IsLow v)) → checked_value h n v ≡ Err (CodePoint v)
unfolding checked_value
when_bad h n v b = grind (arith, nat_tests, b)

-- a whole sequence is read as its value
split_of_shape : (h : Bool) (b : ℕ) (ks rest : List ℕ) → IsWholeSequence b ks → first_split h (b ∷ ks ++ rest) ≡ (checked_value h (needed_continuations b) (sequence_value b ks), rest)
split_of_shape h b ks rest s =
    let n = needed_continuations b in
    split-lead h b (ks ++ rest) s.begun.lead_is.0
    ∙ within_all h n 0 n (lead_bits b) ks rest s.begun.continued (omega (arith, s.whole))
    ∙ within-whole h n (sequence_value b ks) rest

-- a form as its code point, if that may come there
pub split_of_form : (p c : ℕ) (rest : List ℕ) → IsCodePoint c → (IsHigh p → IsLow c → ⊥) → first_split (is_high p) (encode c ++ rest) ≡ (Ok c, rest)
split_of_form p c rest k free =
    ⊎_elim
    (λ h. ap (λ x. first_split (is_high p) (x ++ rest)) (form_ascii c h) ∙ split-ascii (is_high p) c rest h)
    (λ l. let f = form_parts c in
    let v = long_value c f.lead f.after f.is l k in
    ap (λ x. first_split (is_high p) (x ++ rest)) f.is
    ∙ split_of_shape (is_high p) f.lead f.after rest (long_shape c f.lead f.after f.is l k)
    ∙ ap (λ x. (checked_value (is_high p) (needed_continuations f.lead) x, rest)) v.0
    ∙ ap (λ x. (x, rest)) (when_good (is_high p) (needed_continuations f.lead) c v.1 k (λ e. free (in_range-true 0xD800 0xDBFF p e))))
    (cases_lt c 0x80)

pub item_of_form : (p c : ℕ) (rest : List ℕ) → IsCodePoint c → (IsHigh p → IsLow c → ⊥) → items_skipping 0 (is_high p) (encode c ++ rest) ≡ Ok c ∷ items_skipping 0 (is_high c) rest
item_of_form p c rest k free = grind (arith, nat_tests, common_steps, form_bounds, items-split, length-append, split_of_form)

-- the items of forms that come before a rest
pub items_of_encoded : (p : ℕ) (cs rest : List ℕ) → AllByRecursion IsCodePoint cs → HasNoSurrogatePair (p ∷ cs)
    → items_skipping 0 (is_high p) (flat_map encode cs ++ rest) ≡ map Ok cs ++ items_skipping 0 (is_high (last_or p cs)) rest
items_of_encoded p [] rest a f = refl
items_of_encoded p (c ∷ cs) rest a f =
    ap (items_skipping 0 (is_high p)) (append_assoc (encode c) (flat_map encode cs) rest)
    ∙ item_of_form p c (flat_map encode cs ++ rest) a.0 f.0
    ∙ ap (λ x. Ok c ∷ x) (items_of_encoded c cs rest a.1 f.1)

-- a bad shape has a value that is refused
is_bad : (p value : ℕ) (r : List ℕ) (s : IsBadSequence p r value) → checked_value (is_high p) (needed_continuations s.lead) (sequence_value s.lead s.after) ≡ Err (CodePoint value)
is_bad p value r s =
    let v = sequence_value s.lead s.after in
    let n = needed_continuations s.lead in
    when_bad (is_high p) n v
    (⊎_elim inl
    (λ low. inr (⊎_elim inl
    (λ most. inr (⊎_elim (λ none. absurd (none v most (shape_is_form s.lead s.after s.shape low ∙ sym s.is))) (λ k. (in_range 0xD800 0xDBFF p k.2, subst IsLow (sym s.value_is) k.1)) s.bad))
    (cases_lt 0x10_FFFF v)))
    (cases_lt v (least_value n)))
    ∙ ap (λ x. Err (CodePoint x)) s.value_is

-- too few continuations are read as what comes after them
split_of_start : (h : Bool) (refused rest : List ℕ) (r : Result ℕ EncodingError × List ℕ) → IsIncomplete refused → ((n m v : ℕ) → split_within h n (suc m) v rest ≡ r) → first_split h (refused ++ rest) ≡ r
split_of_start h refused rest r g e =
    let n = needed_continuations g.lead in
    let m = n - suc (length g.after) in
    ap (λ z. first_split h (z ++ rest)) g.is
    ∙ split-lead h g.lead (g.after ++ rest) g.begun.lead_is.0
    ∙ within_all h n (suc m) n (lead_bits g.lead) g.after rest g.begun.continued (omega (arith, g.short))
    ∙ e n m (sequence_value g.lead g.after)

split_of_refused : (p : ℕ) (refused rest : List ℕ) (f : EncodingError) → IsRefused p refused rest f → first_split (is_high p) (refused ++ rest) ≡ (Err f, rest)
split_of_refused p refused rest (Byte x) (inl s) = ap (λ z. first_split (is_high p) (z ++ rest)) s.is ∙ split-stray (is_high p) x rest s.stray
split_of_refused p refused rest (Byte x) (inr s) =
    split_of_start (is_high p) refused rest (Err (Byte x), rest) s.begun
    (λ n m v. ap (split_within (is_high p) n (suc m) v) s.next ∙ within-broken (is_high p) n m v x s.after s.breaks ∙ ap (λ z. (Err (Byte x), z)) (sym s.next))
split_of_refused p refused rest End s =
    split_of_start (is_high p) refused rest (Err End, rest) s.0 (λ n m v. ap (split_within (is_high p) n (suc m) v) s.1 ∙ within-end (is_high p) n m v ∙ ap (λ z. (Err End, z)) (sym s.1))
split_of_refused p refused rest (CodePoint value) s =
    ap (λ z. first_split (is_high p) (z ++ rest)) s.is ∙ split_of_shape (is_high p) s.lead s.after rest s.shape ∙ ap (λ z. (z, rest)) (is_bad p value refused s)
split_of_refused p refused rest (Utf8 i j) s = absurd s

-- bytes that begin with a fault are read as it
pub split_of_fault : (p : ℕ) (r : List ℕ) (f : EncodingError) → (s : BeginsFault p r f) → first_split (is_high p) r ≡ (Err f, s.rest)
split_of_fault p r f s = ap (first_split (is_high p)) s.is ∙ split_of_refused p s.refused s.rest f s.refusal

-- what is refused has a byte
pub refused_some : (last : ℕ) (refused rest : List ℕ) (f : EncodingError) → IsRefused last refused rest f → 0 < length refused
refused_some last refused rest (Byte x) (inl s) = let e = ap length s.is in omega arith
refused_some last refused rest (Byte x) (inr s) = let e = ap length s.begun.is in omega arith
refused_some last refused rest End s = let e = ap length s.0.is in omega arith
refused_some last refused rest (CodePoint value) s = let e = ap length s.is in omega arith
refused_some last refused rest (Utf8 i j) s = absurd s

-- the items of a fault: it, and those of what follows the refused part
items_of_fault : (p : ℕ) (r : List ℕ) (f : EncodingError) → (s : BeginsFault p r f) → items_skipping 0 (is_high p) r ≡ Err f ∷ items_skipping 0 false s.rest
items_of_fault p r f s =
    let l = refused_some p s.refused s.rest f s.refusal in
    items-split (is_high p) r (omega (arith, ap length s.is ∙ length-append s.refused s.rest)) ∙ ap items_from (split_of_fault p r f s)

-- what begins nothing may come before any code points
pub after_zero : (cs : List ℕ) → HasNoSurrogatePair cs → HasNoSurrogatePair (0 ∷ cs)
after_zero [] f = (tt, f)
after_zero (c ∷ cs) f = ((λ h l. omega (arith, h.0)), f)

-- what encodes code points, or has a first fault, has these items
pub items_if_encoded : (bytes cs : List ℕ) → Encodes bytes cs → items_after false bytes ≡ map Ok cs
unfolding items_skipping
items_if_encoded bytes cs s =
    ap (items_skipping 0 false) (s.joined ∙ sym (append-nil (flat_map encode cs)))
    ∙ items_of_encoded 0 cs [] s.code_points (after_zero cs s.no_pair)
    ∙ append-nil (map Ok cs)

pub items_if_faulty : (bytes cs : List ℕ) (f : EncodingError) → (s : IsFirstFault bytes cs f) → items_after false bytes ≡ map Ok cs ++ Err f ∷ items_after false s.begins.rest
items_if_faulty bytes cs f s =
    ap (items_skipping 0 false) (s.joined ∙ ap (λ x. x ++ s.from) s.encoded.joined)
    ∙ items_of_encoded 0 cs s.from s.encoded.code_points (after_zero cs s.encoded.no_pair)
    ∙ ap (λ x. map Ok cs ++ x) (items_of_fault (last_or 0 cs) s.from f s.begins)

pub items_if : (bytes : List ℕ) (items : List (Result ℕ EncodingError)) → AreItems bytes items → items_after false bytes ≡ items
items_if bytes items (Whole r) = items_if_encoded bytes r.code_points r.encoded ∙ sym r.are
items_if bytes items (Faulty {rest = rest} {later = later} r l) =
    items_if_faulty bytes r.code_points r.fault r.first
    ∙ ap (λ x. map Ok r.code_points ++ Err r.fault ∷ x) (ap (items_after false) r.after ∙ items_if rest later l)
    ∙ sym r.are

-- so bytes encode one list, have one first fault, never both, and one list of items
pub encoded_once : (bytes cs ds : List ℕ) → Encodes bytes cs → Encodes bytes ds → cs ≡ ds
encoded_once bytes cs ds s t = same_oks cs ds (sym (items_if_encoded bytes cs s) ∙ items_if_encoded bytes ds t)

pub one_fault : (bytes cs ds : List ℕ) (f g : EncodingError) → IsFirstFault bytes cs f → IsFirstFault bytes ds g → (cs ≡ ds) × (f ≡ g)
one_fault bytes cs ds f g s t = let e = same_faulty cs ds f g _ _ (sym (items_if_faulty bytes cs f s) ∙ items_if_faulty bytes ds g t) in (e.0, e.1)

pub never_both : (bytes cs ds : List ℕ) (f : EncodingError) → Encodes bytes cs → IsFirstFault bytes ds f → ⊥
never_both bytes cs ds f s t = no_err cs ds f _ (sym (items_if_encoded bytes cs s) ∙ items_if_faulty bytes ds f t)

pub one_list_of_items : (bytes : List ℕ) (xs ys : List (Result ℕ EncodingError)) → AreItems bytes xs → AreItems bytes ys → xs ≡ ys
one_list_of_items bytes xs ys s t = sym (items_if bytes xs s) ∙ items_if bytes ys t
