-- Units and code points, one to one.
use Rattle.wtf8_core.proofs.Common.{◌≡◌, ℕ, ◌<◌, ◌≤◌, List, [], ◌∷◌, ◌++◌, length, get_or, Fits, w16, refl, sym, ap, ◌∙◌, arith, cond_both, nat_tests, All-from_get_or, recursion_from_All, AllByRecursion, flat_map, IsHigh, IsLow, high_unit, low_unit, is_pair, paired, IsCodePoint, encode, encode_utf16, HasNoSurrogatePair, MayPrecede, units, HasUnits, code_points_of, decoder_bytes, drop, drop_all, subst, true, false, ◌+◌, common_steps}
use Rattle.std.specs.Prelude.{slice_index}
use Rattle.std.proofs.lemmas.List.{drop_more}
use Rattle.wtf8_core.proofs.lemmas.reader.Complete.{encoded_once}

-- the units of a code point, one or two
pub wide_single : (c : ℕ) → c < 0x1_0000 → encode_utf16 c ≡ c ∷ []
unfolding encode_utf16
wide_single c h = grind (arith, nat_tests)

pub wide_pair : (c : ℕ) → 0x1_0000 ≤ c → encode_utf16 c ≡ high_unit c ∷ low_unit c ∷ []
unfolding encode_utf16
wide_pair c h = grind (arith, nat_tests)

-- what is no high surrogate may precede anything
pub may_precede : (c : ℕ) (vs : List ℕ) → (IsHigh c → ⊥) → MayPrecede c vs
may_precede c [] n = tt
may_precede c (v ∷ vs) n = λ h l. n h

-- what may precede a code point may precede its units
pub precedes_wide : (c d : ℕ) (us : List ℕ) → IsCodePoint d → (IsHigh c → IsLow d → ⊥) → MayPrecede c (encode_utf16 d ++ us)
unfolding encode_utf16
precedes_wide c d us k m = grind (arith, nat_tests, m)

precedes_units : (c : ℕ) (cs : List ℕ) → AllByRecursion IsCodePoint cs → MayPrecede c cs → MayPrecede c (units cs)
precedes_units c [] a m = tt
precedes_units c (d ∷ cs) a m = precedes_wide c d (units cs) a.0 m

-- the units of a code point are read as it, before units that it may precede
reads_wide : (c : ℕ) (us : List ℕ) → IsCodePoint c → MayPrecede c us → code_points_of (encode_utf16 c ++ us) ≡ c ∷ code_points_of us
unfolding encode_utf16 code_points_of
reads_wide c [] k m = grind (arith, nat_tests)
reads_wide c (u ∷ us) k m = grind (arith, nat_tests, m)

pub read_single : (u : ℕ) (us : List ℕ) → MayPrecede u us → code_points_of (u ∷ us) ≡ u ∷ code_points_of us
unfolding code_points_of
read_single u [] m = refl
read_single u (v ∷ us) m = grind (arith, nat_tests, m)

-- the code points of units of code points
pub reads_units : (cs : List ℕ) → AllByRecursion IsCodePoint cs → HasNoSurrogatePair cs → code_points_of (units cs) ≡ cs
unfolding code_points_of
reads_units [] a f = refl
reads_units (c ∷ cs) a f = reads_wide c (units cs) a.0 (precedes_units c cs a.1 f.0) ∙ ap (λ x. c ∷ x) (reads_units cs a.1 f.1)

-- a number of 16 bits
abbrev pub IsUnit : ℕ → Type 0
IsUnit u = u < 0x1_0000

-- the units of a code point are such numbers
pub wide_units : (c : ℕ) → IsCodePoint c → AllByRecursion IsUnit (encode_utf16 c)
unfolding encode_utf16
wide_units c h = grind (arith, nat_tests)

-- the code points of units: a paired-free list with these units
pub record IsReading (us cs : List ℕ) : Type 0 where
  pub code_points : AllByRecursion IsCodePoint cs
  pub no_pair : HasNoSurrogatePair cs
  pub are : us ≡ units cs

-- a unit before units that are read
read_precedes : (u v : ℕ) (us : List ℕ) → (IsHigh u → IsLow v → ⊥) → MayPrecede u (code_points_of (v ∷ us))
unfolding code_points_of
read_precedes u v [] m = m
read_precedes u v (w ∷ us) m = cond_both (is_pair v w) _ _ (MayPrecede u) (λ e h l. omega (arith, l.0, l.1)) (λ e. m)

-- the units of a pair
pub paired_units : (u v : ℕ) → IsHigh u → IsLow v → encode_utf16 (paired u v) ≡ u ∷ v ∷ []
unfolding encode_utf16
paired_units u v h l = grind (arith, nat_tests, h, l)

-- one more unit
reading_single : (u : ℕ) (us cs : List ℕ) → IsUnit u → MayPrecede u cs → IsReading us cs → IsReading (u ∷ us) (u ∷ cs)
reading_single u us cs h m r = grind (arith, nat_tests, common_steps, wide_single, r.no_pair, r.are)

-- a pair at the start
reading_pair : (u v : ℕ) (us cs : List ℕ) → IsHigh u → IsLow v → IsReading us cs → IsReading (u ∷ v ∷ us) (paired u v ∷ cs)
reading_pair u v us cs h l r = grind (arith, nat_tests, common_steps, paired_units, r.no_pair, r.are)

-- units are read so
pub reading : (us : List ℕ) → AllByRecursion IsUnit us → IsReading us (code_points_of us)
unfolding code_points_of
reading [] a = record { code_points = tt; no_pair = tt; are = refl }
reading (u ∷ []) a = reading_single u [] [] a.0 tt (record { code_points = tt; no_pair = tt; are = refl })
reading (u ∷ v ∷ us) a =
    cond_both (is_pair u v) _ _ (IsReading (u ∷ v ∷ us))
    (λ e. reading_pair u v us _ (grind (arith, nat_tests)) (grind (arith, nat_tests)) (reading us a.1.1))
    (λ e. reading_single u (v ∷ us) _ a.0 (read_precedes u v us (λ h l. grind (arith, nat_tests, h, l))) (reading (v ∷ us) a.1))

-- bytes with the same units are the same
pub units_once : (bytes others us : List ℕ) → HasUnits bytes us → HasUnits others us → bytes ≡ others
units_once bytes others us h k =
    let c : code_points_of us ≡ h.code_points = ap code_points_of h.are ∙ reads_units h.code_points h.encoded.code_points h.encoded.no_pair in
    let d : code_points_of us ≡ k.code_points = ap code_points_of k.are ∙ reads_units k.code_points k.encoded.code_points k.encoded.no_pair in
    h.encoded.joined ∙ ap (flat_map encode) (sym c ∙ d) ∙ sym k.encoded.joined

-- the forms of the code points of units encode these units
pub encoded_units : (us : List ℕ) → AllByRecursion IsUnit us → HasUnits (flat_map encode (code_points_of us)) us
encoded_units us a =
    let r = reading us a in
    record { code_points = code_points_of us; encoded = record { code_points = r.code_points; no_pair = r.no_pair; joined = refl }; are = r.are }

-- each list of units is that of some bytes
pub units_encoded : (us : List ℕ) → AllByRecursion IsUnit us → (bytes : List ℕ) × HasUnits bytes us
units_encoded us a = (flat_map encode (code_points_of us), encoded_units us a)

-- bytes have one list of units
pub one_list_of_units : (bytes us vs : List ℕ) → HasUnits bytes us → HasUnits bytes vs → us ≡ vs
one_list_of_units bytes us vs h k = h.are ∙ ap units (encoded_once bytes h.code_points k.code_points h.encoded k.encoded) ∙ sym k.are

-- past the units no bytes come
pub bytes_none : (us : List ℕ) (i : ℕ) → length us ≤ i → decoder_bytes 0 (drop i us) ≡ []
unfolding code_points_of
bytes_none us i h = ap (decoder_bytes 0) (drop_all i us h)

-- a unit that isn't half of a pair
bytes_single : (us : List ℕ) (i : ℕ) → i < length us → MayPrecede (slice_index us i) (drop (i + 1) us)
    → decoder_bytes 0 (drop i us) ≡ encode (slice_index us i) ++ decoder_bytes 0 (drop (i + 1) us)
bytes_single us i h m = ap (decoder_bytes 0) (drop_more us i 0 h) ∙ ap (flat_map encode) (read_single _ _ m)

-- a unit below the surrogates isn't
pub bytes_below : (us : List ℕ) (i : ℕ) → i < length us → slice_index us i < 0xD800
    → decoder_bytes 0 (drop i us) ≡ encode (slice_index us i) ++ decoder_bytes 0 (drop (i + 1) us)
bytes_below us i h b = bytes_single us i h (may_precede _ _ (λ s. omega (arith, s.0)))

-- the last unit isn't, and one that begins no pair
pub bytes_last : (us : List ℕ) (i : ℕ) → i < length us → length us ≤ i + 1
    → decoder_bytes 0 (drop i us) ≡ encode (slice_index us i) ++ decoder_bytes 0 (drop (i + 1) us)
bytes_last us i h e = bytes_single us i h (subst (MayPrecede (slice_index us i)) (sym (drop_all (i + 1) us e)) tt)

pub bytes_unpaired : (us : List ℕ) (i : ℕ) → i + 1 < length us → is_pair (slice_index us i) (slice_index us (i + 1)) ≡ false
    → decoder_bytes 0 (drop i us) ≡ encode (slice_index us i) ++ decoder_bytes 0 (drop (i + 1) us)
bytes_unpaired us i h e =
    bytes_single us i (omega arith) (subst (MayPrecede (slice_index us i)) (sym (drop_more us (i + 1) 0 h)) (λ s l. grind (arith, nat_tests, s, l)))

pub bytes_pair : (us : List ℕ) (i : ℕ) → i + 1 < length us → is_pair (slice_index us i) (slice_index us (i + 1)) ≡ true
    → decoder_bytes 0 (drop i us) ≡ encode (paired (slice_index us i) (slice_index us (i + 1))) ++ decoder_bytes 0 (drop (i + 1 + 1) us)
unfolding code_points_of
bytes_pair us i h e =
    ap (decoder_bytes 0) (drop_more us i 0 (omega arith) ∙ ap (λ x. slice_index us i ∷ x) (drop_more us (i + 1) 0 h)) ∙ grind (arith, nat_tests)

pub ruleset decoding = (bytes_none, bytes_below, bytes_last, bytes_unpaired, bytes_pair)

pub decoded : (us : List ℕ) → ((i : ℕ) → Fits w16 (get_or us i 0)) → HasUnits (decoder_bytes 0 us) us
decoded us h = encoded_units us (recursion_from_All IsUnit us (All-from_get_or IsUnit us 0 (λ i _. omega (arith, h i))))
