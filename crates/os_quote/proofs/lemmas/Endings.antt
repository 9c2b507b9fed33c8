-- A space at the end of a string, and its token.
use Rattle.os_quote.proofs.Common.{◌≡◌, ⊎_elim, ℕ, suc, ◌-◌, ◌<◌, true, false, List, [], ◌∷◌, ◌++◌, length, take, drop, eqb, get_or, refl, sym, ap, ◌∙◌, subst, arith, append-nil, length-append, take_at, encode, AllByRecursion, flat_map, IsUtf8, IsUtf8-encode, encode_ascii, WideUnit, IsItem, item_bytes, shown_by, eqb-true, cases_Bool, true≢false, Chunk, AreChunks, IsChunkOf, are_chunks_of, before_ending, ending, ends_in_space, has_ending, space}
use Rattle.std.proofs.Math.Seq.{get_or-append_seam}
use Rattle.wtf8_core.specs.{OccurrenceLaws.OccurrenceLaws, Boundary.IsBoundary}
use Rattle.os_quote.specs.declared.form.Form.{Form, TheVariants.Text, TheVariants.Line}

-- what comes before the last of some bytes, and the last
pub before_last : (s : List ℕ) → 0 < length s → s ≡ take (length s - 1) s ++ get_or s (length s - 1) 0 ∷ []
before_last [] some = absurd (omega (arith, some))
before_last (b ∷ []) some = refl
before_last (b ∷ c ∷ s) some =
    let one : suc (length (c ∷ s) - 1) ≡ length (b ∷ c ∷ s) - 1 = omega arith in
    subst (λ n. b ∷ c ∷ s ≡ take n (b ∷ c ∷ s) ++ get_or (b ∷ c ∷ s) n 0 ∷ []) one (ap (λ x. b ∷ x) (before_last (c ∷ s) (omega arith)))

pub some_before_space : (s : List ℕ) → ends_in_space s ≡ true → 0 < length s
some_before_space [] e = absurd (true≢false (sym e))
some_before_space (b ∷ s) e = omega arith

pub at_space : (s : List ℕ) → ends_in_space s ≡ true → s ≡ take (length s - 1) s ++ space ∷ []
at_space s e = before_last s (some_before_space s e) ∙ ap (λ x. take (length s - 1) s ++ x ∷ []) (eqb-true (get_or s (length s - 1) 0) space e)

-- a string that is followed by a space
pub spaced : (s before : List ℕ) → s ≡ before ++ space ∷ [] → (ends_in_space s ≡ true) × (take (length s - 1) s ≡ before)
spaced s before e =
    let n : length before ≡ length s - 1 = omega (arith, ap length e, length-append before (space ∷ [])) in
    let last : get_or s (length s - 1) 0 ≡ space = ap (λ x. get_or x (length s - 1) 0) e ∙ ap (λ k. get_or (before ++ space ∷ []) k 0) (sym n) ∙ get_or-append_seam before space [] 0 in
    (ap (λ x. eqb x space) last, ap (λ x. take (length s - 1) x) e ∙ take_at before (space ∷ []) (length s - 1) n)

pub unspaced : (s : List ℕ) → ((before : List ℕ) → s ≡ before ++ space ∷ [] → ⊥) → ends_in_space s ≡ false
unspaced s never = ⊎_elim (λ y. absurd (never (take (length s - 1) s) (at_space s y))) (λ n. n) (cases_Bool (ends_in_space s))

-- what is escaped character by character, and the token after it
pub before_space : (s before : List ℕ) → s ≡ before ++ space ∷ [] → before_ending Line s ≡ before
before_space s before e = let k = spaced s before e in rw k.0 k.1

pub without_ending : (form : Form) (s : List ℕ) → has_ending form s ≡ false → (before_ending form s ≡ s) × (ending form s ≡ [])
without_ending form s e = rw e (refl, refl)

pub with_ending : (form : Form) (s : List ℕ) → has_ending form s ≡ true → (before_ending form s ≡ take (length s - 1) s) × (ending form s ≡ WideUnit space ∷ [])
with_ending form s e = rw e (refl, refl)

ends_so : (form : Form) (s : List ℕ) → has_ending form s ≡ true → ends_in_space s ≡ true
ends_so Text s e = absurd (true≢false (sym e))
ends_so Line s e = e

pub some_before_ending : (form : Form) (s : List ℕ) → has_ending form s ≡ true → 0 < length s
some_before_ending form s e = some_before_space s (ends_so form s e)

pub ending_is_item : (form : Form) (s : List ℕ) → AllByRecursion (IsItem (shown_by form)) (ending form s)
ending_is_item form s = ⊎_elim (λ y. rw y (omega arith, tt)) (λ n. rw n tt) (cases_Bool (has_ending form s))

-- both mean the string
pub joined_again : (form : Form) (s : List ℕ) → before_ending form s ++ flat_map item_bytes (ending form s) ≡ s
unfolding encode
joined_again form s =
    ⊎_elim
    (λ y. rw y (sym (at_space s (ends_so form s y))))
    (λ n. rw n (append-nil s))
    (cases_Bool (has_ending form s))

space_is_text : IsUtf8 (space ∷ [])
space_is_text = subst IsUtf8 (encode_ascii space (omega arith)) (IsUtf8-encode space refl)

-- what comes before the space is a string
pub before_ending_formed : {well_formed : List ℕ → Type 0} {units : List ℕ → List ℕ} → OccurrenceLaws well_formed units → (form : Form) (s : List ℕ) → well_formed s → well_formed (before_ending form s)
before_ending_formed {well_formed} occurrence form s formed =
    ⊎_elim
    (λ y.
    let front = take (length s - 1) s in
    rw y (occurrence.before_text (space ∷ []) front [] space_is_text (omega arith) (subst well_formed (at_space s (ends_so form s y)) formed)))
    (λ n. rw n formed)
    (cases_Bool (has_ending form s))

-- its chunks are those of a string
pub chunks_before_ending : {well_formed : List ℕ → Type 0} {units : List ℕ → List ℕ} → OccurrenceLaws well_formed units
    → ((b : List ℕ) (i : ℕ) → well_formed b → IsBoundary b i → well_formed (take i b)) → ((b : List ℕ) (i : ℕ) → well_formed b → IsBoundary b i → well_formed (drop i b))
    → (form : Form) (s : List ℕ) (cs : List Chunk) → well_formed s → AreChunks (before_ending form s) cs → AllByRecursion (IsChunkOf well_formed) cs
chunks_before_ending {well_formed} occurrence cut_prefix cut_suffix form s cs formed are =
    are_chunks_of well_formed cut_prefix cut_suffix (before_ending form s) cs (before_ending_formed occurrence form s formed) are
