-- Lists of pairs that alternate between two kinds of elements, as chunks do over bytes and runs over code points.
use Rattle.wtf8_core.proofs.Common.{nat_tests, common_steps, ◌≡◌, ◌⊎◌, ⊎_elim, ℕ, ◌+◌, ◌<◌, List, [], ◌∷◌, ◌++◌, length, refl, sym, ap, ◌∙◌, subst, arith, length-append, append_assoc, Chunk, joined}

-- the pair c is at index i; a pair without a part comes first, and one without a text comes last
pub record IsGroup (IsPart IsText : ℕ → List ℕ → Type 0) (i : ℕ) (First : Type 0) (c : Chunk) (Last : Type 0) : Type 0 where
  pub some : 0 < length (c.0 ++ c.1)
  pub part : IsPart i c.0
  pub text : IsText (i + length c.0) c.1
  pub part_first : c.0 ≡ [] → First
  pub text_last : c.1 ≡ [] → Last

with_first : {IsPart IsText : ℕ → List ℕ → Type 0} {i : ℕ} {First Then Last : Type 0} {c : Chunk} → (c.0 ≡ [] → First → Then) → IsGroup IsPart IsText i First c Last → IsGroup IsPart IsText i Then c Last
with_first f g = record { some = g.some; part = g.part; text = g.text; part_first = λ none. f none (g.part_first none); text_last = g.text_last }

-- pairs that come one after the other from index i on
abbrev pub AreGroups : (IsPart IsText : ℕ → List ℕ → Type 0) → ℕ → Type 0 → List Chunk → Type 0
AreGroups IsPart IsText i First [] = Unit {0}
AreGroups IsPart IsText i First (c ∷ after) = IsGroup IsPart IsText i First c (after ≡ []) × AreGroups IsPart IsText (i + length (c.0 ++ c.1)) ⊥ after

-- one more pair at the end
joined-end : (before : List Chunk) (c : Chunk) → length (joined (before ++ c ∷ [])) ≡ length (joined before) + length (c.0 ++ c.1)
joined-end [] c = simp (length-append) (omega arith)
joined-end (b ∷ before) c = let e = joined-end before c in simp (length-append) (omega (arith, simp length-append at e))

module _ (IsPart IsText : ℕ → List ℕ → Type 0) where
  -- each pair between its others, and the pairs one after the other, are the same
  pub groups_from_each : (all before cs : List Chunk) (First : Type 0) → (before ≡ [] → First) → ((b d : List Chunk) (c : Chunk) → all ≡ b ++ c ∷ d → IsGroup IsPart IsText (length (joined b)) (b ≡ []) c (d ≡ []))
      → all ≡ before ++ cs → AreGroups IsPart IsText (length (joined before)) First cs
  groups_from_each all before [] First first each e = tt
  groups_from_each all before (c ∷ cs) First first each e = (
    with_first (λ _. first) (each before cs c e),
    subst (λ i. AreGroups IsPart IsText i ⊥ cs) (joined-end before c) (groups_from_each all (before ++ c ∷ []) cs ⊥ (never before) each (e ∙ sym (append_assoc before (c ∷ []) cs))),
  )
    where
      never : (before : List Chunk) → before ++ c ∷ [] ≡ [] → ⊥
      never [] n = cc
      never (b ∷ before) n = cc

  -- the pair after these
  each_of : (i : ℕ) (First : Type 0) (cs before after : List Chunk) (c : Chunk) → AreGroups IsPart IsText i First cs → cs ≡ before ++ c ∷ after
      → IsGroup IsPart IsText (i + length (joined before)) (First × (before ≡ [])) c (after ≡ [])
  each_of i First [] [] after c g e = cc
  each_of i First [] (b ∷ before) after c g e = cc
  each_of i First (x ∷ cs) [] after c g e = grind (arith, nat_tests, common_steps, with_first)
  each_of i First (x ∷ cs) (b ∷ before) after c g e =
      let p : x ≡ b = cc in
      let q : cs ≡ before ++ c ∷ after = cc in
      let z : i + length (x.0 ++ x.1) + length (joined before) ≡ i + length (joined (b ∷ before)) =
      ap (λ y. i + length (y.0 ++ y.1) + length (joined before)) p ∙ simp length-append (omega arith) in
      with_first (λ _ f. absurd f.0) (subst (λ n. IsGroup IsPart IsText n (⊥ × (before ≡ [])) c (after ≡ [])) z (each_of (i + length (x.0 ++ x.1)) ⊥ cs before after c g.1 q))

  pub each_from_groups : (cs before after : List Chunk) (c : Chunk) → AreGroups IsPart IsText 0 (Unit {0}) cs → cs ≡ before ++ c ∷ after → IsGroup IsPart IsText (length (joined before)) (before ≡ []) c (after ≡ [])
  each_from_groups cs before after c g e = let z : 0 + length (joined before) ≡ length (joined before) = omega arith in subst (λ n. IsGroup IsPart IsText n (before ≡ []) c (after ≡ [])) z (with_first (λ _ f. f.1) (each_of 0 (Unit {0}) cs before after c g e))

  -- pairs of which the first has a part may come after others
  pub not_first : (i : ℕ) (First : Type 0) (c : Chunk) (cs : List Chunk) → (c.0 ≡ [] → ⊥) → AreGroups IsPart IsText i (Unit {0}) (c ∷ cs) → AreGroups IsPart IsText i First (c ∷ cs)
  not_first i First c cs some g = (with_first (λ none _. absurd (some none)) g.0, g.1)

-- the pairs of a list whose elements each are of one kind
module _ (IsPart IsText : ℕ → List ℕ → Type 0) (OfPart OfText : ℕ → ℕ → Type 0)
    (part_none : (i : ℕ) → IsPart i []) (text_none : (i : ℕ) → IsText i [])
    (part_more : (i x : ℕ) (xs : List ℕ) → OfPart i x → IsPart (i + 1) xs → IsPart i (x ∷ xs))
    (text_more : (i x : ℕ) (xs : List ℕ) → OfText i x → IsText (i + 1) xs → IsText i (x ∷ xs)) where
  abbrev Grouped : ℕ → List ℕ → Type 0
  Grouped i xs = (cs : List Chunk) × AreGroups IsPart IsText i (Unit {0}) cs × (joined cs ≡ xs)

  -- one more element of a part at the start
  with_part : (i x : ℕ) (xs : List ℕ) → OfPart i x → Grouped (i + 1) xs → Grouped i (x ∷ xs)
  with_part i x xs h g = by g.0 g.1 g.2
    where
      before : (c : Chunk) (cs : List Chunk) → IsPart (i + 1) c.0 → IsText (i + length (x ∷ c.0)) c.1 → (c.1 ≡ [] → cs ≡ []) → AreGroups IsPart IsText (i + length (x ∷ (c.0 ++ c.1))) ⊥ cs → joined (c ∷ cs) ≡ xs → Grouped i (x ∷ xs)
      before c cs p t last k e = ((x ∷ c.0, c.1) ∷ cs, (record { some = omega arith; part = part_more i x c.0 h p; text = t; part_first = λ none. cc; text_last = last }, k), ap (λ l. x ∷ l) e)

      by : (cs : List Chunk) → AreGroups IsPart IsText (i + 1) (Unit {0}) cs → joined cs ≡ xs → Grouped i (x ∷ xs)
      by [] k e = before ([], []) [] (part_none (i + 1)) (text_none _) (λ _. refl) tt e
      by (c ∷ cs) k e =
          let z : i + 1 + length c.0 ≡ i + length (x ∷ c.0) = omega arith in
          let y : i + 1 + length (c.0 ++ c.1) ≡ i + length (x ∷ (c.0 ++ c.1)) = omega arith in
          before c cs k.0.part (subst (λ n. IsText n c.1) z k.0.text) k.0.text_last (subst (λ n. AreGroups IsPart IsText n ⊥ cs) y k.1) e

  -- one more element of a text
  with_text : (i x : ℕ) (xs : List ℕ) → OfText i x → Grouped (i + 1) xs → Grouped i (x ∷ xs)
  with_text i x xs h g = by g.0 g.1 g.2
    where
      before : (t : List ℕ) (cs : List Chunk) → IsText (i + 1) t → AreGroups IsPart IsText (i + length (x ∷ t)) ⊥ cs → t ++ joined cs ≡ xs → Grouped i (x ∷ xs)
      before t cs p k e =
          let z : i ≡ i + 0 = omega arith in
          (([], x ∷ t) ∷ cs, (record { some = omega arith; part = part_none i; text = subst (λ n. IsText n (x ∷ t)) z (text_more i x t h p); part_first = λ _. tt; text_last = λ none. cc }, k), ap (λ l. x ∷ l) e)

      by : (cs : List Chunk) → AreGroups IsPart IsText (i + 1) (Unit {0}) cs → joined cs ≡ xs → Grouped i (x ∷ xs)
      by [] k e = before [] [] (text_none (i + 1)) tt e
      by (([], t) ∷ cs) k e =
          let z : i + 1 + 0 ≡ i + 1 = omega arith in
          let y : i + 1 + length t ≡ i + length (x ∷ t) = omega arith in
          before t cs (subst (λ n. IsText n t) z k.0.text) (subst (λ n. AreGroups IsPart IsText n ⊥ cs) y k.1) e
      by ((p ∷ ps, t) ∷ cs) k e = before [] ((p ∷ ps, t) ∷ cs) (text_none (i + 1)) (not_first IsPart IsText (i + 1) ⊥ (p ∷ ps, t) cs (λ none. cc) k) e

  abbrev pub EachIsOfOne : ℕ → List ℕ → Type 0
  EachIsOfOne i [] = Unit {0}
  EachIsOfOne i (x ∷ xs) = (OfPart i x ⊎ OfText i x) × EachIsOfOne (i + 1) xs

  pub grouped : (i : ℕ) (xs : List ℕ) → EachIsOfOne i xs → Grouped i xs
  grouped i [] h = ([], tt, refl)
  grouped i (x ∷ xs) h = let more = grouped (i + 1) xs h.1 in ⊎_elim (λ k. with_part i x xs k more) (λ k. with_text i x xs k more) h.0
