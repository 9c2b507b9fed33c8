-- The chunks of WTF-8 are the forms of its runs of surrogates, each with the scalar values after it.
use Rattle.wtf8_core.proofs.Common.{nil_from_length, ◌≡◌, inl, inr, ⊎_elim, ℕ, ◌+◌, ◌-◌, ◌≤◌, List, [], ◌∷◌, ◌++◌, map, length, drop, get_or, refl, sym, ap, ◌∙◌, subst, arith, length-append, append_assoc, drop-append_seam, cases_eq, cases_Bool, flat_map-append, get_or-drop, get_or_append_left, IsScalar, AllByRecursion, IsContinuation, IsSurrogate, is_surrogate, IsCodePoint, encode, IsCovered, CrossesNoCharacter, Chunk, joined, AreChunks, Encodes}
use Rattle.wtf8_core.specs.Runs.{AreRuns, form_chunk}
use Rattle.wtf8_core.proofs.lemmas.{forms.Ranges.in_range-true, forms.Ranges.in_range, forms.Shapes.form_bounds, forms.ByStd.form_same, characters.AtIndices.begins_at, characters.AtIndices.is_scalar, characters.AtIndices.scalar_no_surrogate, characters.Overlaps.form_after, characters.Overlaps.no_start, characters.Seams.Uncovered, characters.Seams.uncovered_run, characters.Seams.seam_at_start, characters.Seams.Forms, characters.Seams.forms_over, characters.Seams.scalar_covered, chunks.Groups.AreGroups, chunks.Groups.each_from_groups, chunks.Groups.EachIsOfOne, chunks.Groups.grouped, chunks.OneList.AreChunksFrom, chunks.OneList.are_chunks, chunks.OneList.chunks_once}

-- the bytes of a surrogate aren't in any whole character
surrogate_uncovered : (s x r : List ℕ) (i c : ℕ) → s ≡ x ++ (encode c ++ r) → length x ≡ i → IsSurrogate c → CrossesNoCharacter s i → Uncovered s i (encode c) × CrossesNoCharacter s (i + length (encode c))
surrogate_uncovered s x r i c e l h k = uncovered_run s i (encode c) k (λ a b low high w. ⊎_elim
    (λ q. let same = form_same w.char c w.occurs.after r (sym (begins_at s a b w) ∙ ap (λ n. drop n s) q ∙ rest) in scalar_no_surrogate w.char w.scalar (ap is_surrogate same.0 ∙ in_range _ _ c h))
    (λ ne. let m = a - i in
    let z : i + m ≡ a = omega arith in
    let byte : get_or s (i + m) 0 ≡ get_or (encode c) m 0 = sym (get_or-drop i s m 0) ∙ ap (λ y. get_or y m 0) rest ∙ get_or_append_left (encode c) r 0 m (omega arith) in
    no_start s a b (subst (λ n. IsContinuation (get_or s n 0)) z (subst IsContinuation (sym byte) (form_after c m (omega arith) (omega arith)))) w)
    (cases_eq a i))
  where
    rest : drop i s ≡ encode c ++ r
    rest = ap (λ n. drop n s) (sym l) ∙ ap (drop (length x)) e ∙ drop-append_seam x (encode c ++ r)

-- lists of surrogates, and of scalars, at any index
abbrev Surrogates : ℕ → List ℕ → Type 0
Surrogates i cs = AllByRecursion IsSurrogate cs

abbrev Scalars : ℕ → List ℕ → Type 0
Scalars i cs = AllByRecursion IsScalar cs

-- each form has a byte
as_many : (cs : List ℕ) → length cs ≤ length (Forms cs)
as_many [] = omega arith
as_many (c ∷ cs) = let b = form_bounds c in let more = as_many cs in omega (arith, length-append (encode c) (Forms cs))

no_forms : (cs : List ℕ) → Forms cs ≡ [] → cs ≡ []
no_forms cs e = nil_from_length cs (omega (arith, as_many cs, ap length e))

-- the bytes of runs are chunks
chunks_of_runs : (s x : List ℕ) (i j : ℕ) (First : Type 0) (runs : List Chunk) → s ≡ x ++ Forms (joined runs) → length x ≡ i → AreGroups Surrogates Scalars j First runs → CrossesNoCharacter s i → AreChunksFrom s i First (map form_chunk runs)
chunks_of_runs s x i j First [] e l g k = tt
chunks_of_runs s x i j First (c ∷ cs) e l g k =
    let p = Forms c.0 in
    let t = Forms c.1 in
    let r = Forms (joined cs) in
    let f : s ≡ x ++ (p ++ (t ++ r)) = e ∙ ap (λ y. x ++ y) (flat_map-append encode c.0 (c.1 ++ joined cs) ∙ ap (λ y. p ++ y) (flat_map-append encode c.1 (joined cs))) in
    let part = forms_over s (λ k. ¬ (IsCovered s k)) IsSurrogate (surrogate_uncovered s) x (t ++ r) i c.0 f l g.0.part k in
    let h : s ≡ (x ++ p) ++ (t ++ r) = f ∙ sym (append_assoc x p (t ++ r)) in
    let m : length (x ++ p) ≡ i + length p = length-append x p ∙ ap (λ n. n + length p) l in
    let text = forms_over s (IsCovered s) IsScalar (scalar_covered s) (x ++ p) r (i + length p) c.1 h m g.0.text part.1 in
    let z : i + length p + length t ≡ i + length (p ++ t) = omega (arith, length-append p t) in
    let n : length ((x ++ p) ++ t) ≡ i + length (p ++ t) = length-append (x ++ p) t ∙ omega arith in (
      record {
        some = omega (arith, g.0.some, length-append c.0 c.1, length-append p t, as_many c.0, as_many c.1);
        part = part.0;
        text = text.0;
        part_first = λ none. g.0.part_first (no_forms c.0 none);
        text_last = λ none. ap (map form_chunk) (g.0.text_last (no_forms c.1 none));
      },
      chunks_of_runs s ((x ++ p) ++ t) (i + length (p ++ t)) (j + length (c.0 ++ c.1)) ⊥ cs (h ∙ sym (append_assoc (x ++ p) t r)) n g.1 (subst (CrossesNoCharacter s) z text.1),
    )

-- each list of code points has runs
each_of_one : (i : ℕ) (cs : List ℕ) → AllByRecursion IsCodePoint cs → EachIsOfOne Surrogates Scalars (λ _ c. IsSurrogate c) (λ _ c. IsScalar c) (λ _. tt) (λ _. tt) (λ _ _ _ h k. (h, k)) (λ _ _ _ h k. (h, k)) i cs
each_of_one i [] h = tt
each_of_one i (c ∷ cs) h = (⊎_elim (λ t. inl (in_range-true _ _ c t)) (λ f. inr (is_scalar c h.0 f)) (cases_Bool (is_surrogate c)), each_of_one (i + 1) cs h.1)

-- the chunks of WTF-8 are the bytes of its runs
pub chunks_by_runs : (s cs : List ℕ) (chunks : List Chunk) → Encodes s cs → AreChunks s chunks → (runs : List Chunk) × (AreRuns cs runs × (chunks ≡ map form_chunk runs))
chunks_by_runs s cs chunks h k =
    let g = grouped Surrogates Scalars (λ _ c. IsSurrogate c) (λ _ c. IsScalar c) (λ _. tt) (λ _. tt) (λ _ _ _ h k. (h, k)) (λ _ _ _ h k. (h, k)) 0 cs (each_of_one 0 cs h.code_points) in
    let e : s ≡ Forms (joined g.0) = h.joined ∙ ap Forms (sym g.2) in (
      g.0,
      (
        record { joins = g.2; each = λ before after c e. let p = each_from_groups Surrogates Scalars g.0 before after c g.1 e in record { some = p.some; surrogates = p.part; scalars = p.text; run_first = p.part_first; scalars_last = p.text_last } },
        chunks_once s chunks (map form_chunk g.0) k (are_chunks s (map form_chunk g.0) (joined_forms g.0 ∙ sym e) (chunks_of_runs s [] 0 0 (Unit {0}) g.0 e refl g.1 (seam_at_start s))),
      ),
    )
  where
    joined_forms : (runs : List Chunk) → joined (map form_chunk runs) ≡ Forms (joined runs)
    joined_forms [] = refl
    joined_forms (c ∷ runs) = ap (λ y. Forms c.0 ++ (Forms c.1 ++ y)) (joined_forms runs) ∙ ap (λ y. Forms c.0 ++ y) (sym (flat_map-append encode c.1 (joined runs))) ∙ sym (flat_map-append encode c.0 (c.1 ++ joined runs))
