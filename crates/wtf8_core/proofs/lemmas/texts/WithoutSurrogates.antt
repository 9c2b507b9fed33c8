-- WTF-8 in which no surrogate begins is UTF-8, and where WTF-8 may be cut before a byte.
use Rattle.wtf8_core.proofs.Common.{eq-eqb, nat_tests, common_steps, ◌≡◌, ⊎_elim, ℕ, zero, suc, ◌+◌, ◌<◌, ◌≤◌, true, List, [], ◌∷◌, ◌++◌, length, take, drop, get_or, refl, sym, ap, ◌∙◌, subst, arith, take-append-drop, get_or-take, get_or_past, length-take-le, cases_lt, cases_Bool, scalar, all_scalars, AllByRecursion, flat_map, IsUtf8, IsUtf8-nil, IsContinuation, IsCodePoint, IsSurrogate, is_surrogate, encode, IsWtf8}
use Rattle.std.proofs.lemmas.List.{drop_more, get_or-append-add}
use Rattle.wtf8_core.specs.Surrogate.{IsSurrogateAt}
use Rattle.wtf8_core.proofs.lemmas.{characters.AtIndices.is_scalar, forms.ByStd.forms_encode, forms.Cuts.cut_before, forms.Cuts.encodes_parts, forms.Ranges.in_range-true, forms.Shapes.form_surrogate}

-- before a byte that is no continuation both parts of WTF-8 are WTF-8
pub cut_at_lead : (b : List ℕ) (i : ℕ) → i < length b → IsWtf8 b → (IsContinuation (get_or b i 0) → ⊥) → IsWtf8 (take i b) × IsWtf8 (drop i b)
cut_at_lead b i lt w n =
    let suffix : drop i b ≡ get_or b i 0 ∷ drop (i + 1) b = drop_more b i 0 lt in
    let cut = cut_before w.0 (take i b) (get_or b i 0) (drop (i + 1) b) n (sym w.1.joined ∙ sym (take-append-drop i b) ∙ ap (λ x. take i b ++ x) suffix) in
    let parts = encodes_parts b w.0 _ _ w.1 cut in
    ((cut.prefix, parts.0), subst IsWtf8 (sym suffix) (cut.suffix, parts.1))

-- a surrogate in the second of two lists
later : (x y : List ℕ) (i : ℕ) → IsSurrogateAt y i → IsSurrogateAt (x ++ y) (length x + i)
later x y i h = grind (arith, nat_tests, common_steps, get_or-append-add)

-- a surrogate's form begins with one
begins : (c : ℕ) (r : List ℕ) → IsSurrogate c → IsSurrogateAt (encode c ++ r) 0
begins c r h = rw (form_surrogate c h) (omega (arith, h), omega (arith, h))

all_text : (cs : List ℕ) → AllByRecursion IsCodePoint cs → ((i : ℕ) → IsSurrogateAt (flat_map encode cs) i → ⊥) → all_scalars cs ≡ true
all_text [] a n = refl
all_text (c ∷ cs) a n =
    let rest = flat_map encode cs in
    let more = all_text cs a.1 (λ i h. n (length (encode c) + i) (later (encode c) rest i h)) in
    let first : scalar c ≡ true = ⊎_elim (λ t. absurd (n 0 (begins c rest (in_range-true _ _ c t)))) (λ f. is_scalar c a.0 f) (cases_Bool (is_surrogate c)) in
    rw (first, more) refl

pub text_without : (b : List ℕ) → IsWtf8 b → ((i : ℕ) → IsSurrogateAt b i → ⊥) → IsUtf8 b
text_without b w n = grind (arith, nat_tests, common_steps, all_text, forms_encode)

pub ruleset without = (text_without, get_or_past, eq-eqb)

-- the same of a prefix before a byte that is no continuation
pub prefix_without : (b : List ℕ) (n : ℕ) → n < length b → IsWtf8 b → (0 < n → IsContinuation (get_or b n 0) → ⊥) → ((i : ℕ) → i < n → IsSurrogateAt b i → ⊥) → IsUtf8 (take n b)
prefix_without b zero lt w begun clear = IsUtf8-nil
prefix_without b (suc m) lt w begun clear =
    let n = suc m in
    let size = length-take-le n b (omega (arith, lt)) in
    let inside : (i : ℕ) → 0 < get_or (take n b) i 0 → i < n = λ i some. ⊎_elim (λ l. l) (λ ge. let none = get_or_past (take n b) i 0 (omega (arith, ge, size)) in absurd (omega (arith, none, some))) (cases_lt i n) in
    text_without (take n b) (cut_at_lead b n lt w (begun (omega arith))).0 (λ i h.
    let here = inside i (omega (arith, h.0)) in
    let next = inside (i + 1) (omega (arith, h.1)) in
    clear i here (sym (get_or-take n b i 0 here) ∙ h.0, subst (λ x. 0xA0 ≤ x) (get_or-take n b (i + 1) 0 next) h.1))
