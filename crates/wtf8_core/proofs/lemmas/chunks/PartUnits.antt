-- The units of strings in which there is no whole character, and of strings that begin with none.
use Rattle.wtf8_core.proofs.Common.{◌≡◌, ⊎_elim, ℕ, ◌+◌, ◌<◌, ◌≤◌, true, List, [], ◌∷◌, ◌++◌, length, take, drop, refl, sym, ap, ◌∙◌, subst, arith, length-append, take-append-drop, cases_lt, cases_Bool, lt-ltb, le-ltb, append-nil, drop_at, All-from_recursion, AllByRecursion, flat_map, IsByte, IsSurrogate, is_surrogate, encode, StartsWithNoCharacter, HasNoCharacter, units_of, Encodes, IsWtf8, units}
use Rattle.wtf8_core.specs.PartUnits.{unit_bytes, AreLoneSurrogates}
use Rattle.wtf8_core.proofs.lemmas.{characters.AtIndices.ascii_first, characters.AtIndices.whole_at, characters.AtIndices.is_scalar, characters.Seams.whole_within, forms.Shapes.length-form_surrogate, forms.Ranges.in_range-true, units.OneToOne.wide_single, units.AsFunction.code_points_in-encoded}

-- rests of uncovered bytes are uncovered
pub uncovered_rest : (b : List ℕ) (n : ℕ) → HasNoCharacter b → HasNoCharacter (drop n b)
uncovered_rest b n h i j w = h (length (take n b) + i) (length (take n b) + j) (whole_within b (take n b) (drop n b) [] i j (sym (take-append-drop n b) ∙ ap (λ x. take n b ++ x) (sym (append-nil (drop n b)))) w)

-- uncovered bytes aren't ASCII, and `unit_bytes` of each of them is that byte alone
pub uncovered_bytes : (b : List ℕ) → AllByRecursion IsByte b → HasNoCharacter b → (b ≡ flat_map unit_bytes b) × AllByRecursion (λ u. 0x80 ≤ u) b
uncovered_bytes [] a h = (refl, tt)
uncovered_bytes (x ∷ b) a h =
    let more = uncovered_bytes b a.1 (uncovered_rest (x ∷ b) 1 h) in
    let high : 0x80 ≤ x = ⊎_elim (λ lt. absurd (h 0 (0 + 1) (ascii_first (x ∷ b) x b refl lt).0)) (λ ge. ge) (cases_lt x 0x80) in
    let one : unit_bytes x ≡ x ∷ [] = rw (lt-ltb x 0x100 a.0) refl in
    (ap (λ l. x ∷ l) more.0 ∙ ap (λ l. l ++ flat_map unit_bytes b) (sym one), (high, more.1))

-- the code point that begins uncovered bytes is a surrogate, of three bytes
pub record BeginsSurrogate (b : List ℕ) (c : ℕ) (cs : List ℕ) : Type 0 where
  pub surrogate : IsSurrogate c
  pub within : 3 ≤ length b
  pub rest : Encodes (drop 3 b) cs

pub begins_surrogate : (b : List ℕ) (c : ℕ) (cs : List ℕ) → Encodes b (c ∷ cs) → StartsWithNoCharacter b → BeginsSurrogate b c cs
begins_surrogate b c cs s h =
    let is : is_surrogate c ≡ true = ⊎_elim (λ t. t) (λ f. absurd (h (0 + length (encode c)) (whole_at b 0 c (flat_map encode cs) (omega arith) (is_scalar c s.code_points.0 f) s.joined))) (cases_Bool (is_surrogate c)) in
    let surrogate : IsSurrogate c = in_range-true _ _ c is in
    let three = length-form_surrogate c surrogate in
    record {
      surrogate = surrogate;
      within = omega (arith, three, ap length s.joined, length-append (encode c) (flat_map encode cs));
      rest = record { code_points = s.code_points.1; no_pair = s.no_pair.1; joined = ap (drop 3) s.joined ∙ drop_at (encode c) (flat_map encode cs) 3 three };
    }

-- a surrogate is its unit
unit_of_surrogate : (c : ℕ) (cs : List ℕ) → IsSurrogate c → units (c ∷ cs) ≡ c ∷ units cs
unit_of_surrogate c cs h = ap (λ x. x ++ units cs) (wide_single c (omega (arith, h.1)))

-- the first unit of WTF-8 that begins with no whole character
pub record FirstUnit (b : List ℕ) (u : ℕ) : Type 0 where
  pub first : units_of b ≡ u ∷ units_of (drop 3 b)
  pub within : 3 ≤ length b
  pub rest : IsWtf8 (drop 3 b)

pub first_unit : (b : List ℕ) → IsWtf8 b → 0 < length b → StartsWithNoCharacter b → (u : ℕ) × FirstUnit b u
first_unit b w some h = by w.0 w.1
  where
    by : (cs : List ℕ) → Encodes b cs → (u : ℕ) × FirstUnit b u
    by [] s = let e = ap length s.joined in absurd (omega arith)
    by (c ∷ cs) s =
        let k = begins_surrogate b c cs s h in
        (c, record { first = ap units (code_points_in-encoded b (c ∷ cs) s) ∙ unit_of_surrogate c cs k.surrogate ∙ ap (λ l. c ∷ units l) (sym (code_points_in-encoded (drop 3 b) cs k.rest)); within = k.within; rest = (cs, k.rest) })

-- the code points of uncovered WTF-8 are surrogates
all_surrogates : (b cs : List ℕ) → Encodes b cs → HasNoCharacter b → AllByRecursion IsSurrogate cs
all_surrogates b [] s h = tt
all_surrogates b (c ∷ cs) s h = let k = begins_surrogate b c cs s (h 0) in (k.surrogate, all_surrogates (drop 3 b) cs k.rest (uncovered_rest b 3 h))

units_of_surrogates : (cs : List ℕ) → AllByRecursion IsSurrogate cs → units cs ≡ cs
units_of_surrogates [] h = refl
units_of_surrogates (c ∷ cs) h = unit_of_surrogate c cs h.0 ∙ ap (λ l. c ∷ l) (units_of_surrogates cs h.1)

bytes_of_surrogates : (cs : List ℕ) → AllByRecursion IsSurrogate cs → flat_map encode cs ≡ flat_map unit_bytes cs
bytes_of_surrogates [] h = refl
bytes_of_surrogates (c ∷ cs) h =
    let one : encode c ≡ unit_bytes c = rw (le-ltb c 0x100 (omega (arith, h.0.0))) refl in
    ap (λ x. x ++ flat_map encode cs) one ∙ ap (λ x. unit_bytes c ++ x) (bytes_of_surrogates cs h.1)

-- the units of uncovered WTF-8 are lone surrogates, with their forms
pub uncovered_wtf8 : (b : List ℕ) → IsWtf8 b → HasNoCharacter b → (b ≡ flat_map unit_bytes (units_of b)) × AreLoneSurrogates (units_of b)
uncovered_wtf8 b w h =
    let cs = w.0 in
    let all = all_surrogates b cs w.1 h in
    let same : units_of b ≡ cs = ap units (code_points_in-encoded b cs w.1) ∙ units_of_surrogates cs all in
    let lone : AreLoneSurrogates cs = record { surrogates = All-from_recursion IsSurrogate cs all; no_pair = w.1.no_pair } in
    (w.1.joined ∙ bytes_of_surrogates cs all ∙ ap (flat_map unit_bytes) (sym same), subst AreLoneSurrogates (sym same) lone)
