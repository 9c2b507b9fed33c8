-- A string has exactly one list of chunks.
use Rattle.wtf8_core.proofs.Common.{nat_tests, common_steps, ◌≡◌, ⊎_elim, ℕ, ◌+◌, ◌-◌, ◌<◌, List, [], ◌∷◌, ◌++◌, length, refl, sym, ap, ◌∙◌, subst, arith, length-append, append_assoc, cases_lt, cases_eq, append-nil, nil_from_length, IsCovered, CrossesNoCharacter, Chunk, joined, AreChunks}
use Rattle.wtf8_core.proofs.lemmas.{forms.Appending.append_same, characters.Seams.Uncovered, characters.Seams.Covered, characters.Seams.over_none, characters.Seams.over_first, characters.Seams.uncovered_or_covered, characters.Seams.covered_within, characters.Seams.covered_after, chunks.Groups.IsGroup, chunks.Groups.AreGroups, chunks.Groups.groups_from_each, chunks.Groups.each_from_groups, chunks.Groups.EachIsOfOne, chunks.Groups.grouped, chunks.Groups.not_first}

-- the chunks of s one after the other, from index i on
abbrev pub AreChunksFrom : List ℕ → ℕ → Type 0 → List Chunk → Type 0
AreChunksFrom s i First cs = AreGroups (Uncovered s) (Covered s) i First cs

-- the same as each between its others
pub chunks_from_start : (s : List ℕ) (cs : List Chunk) → AreChunks s cs → AreChunksFrom s 0 (Unit {0}) cs
chunks_from_start s cs h = groups_from_each (Uncovered s) (Covered s) cs [] cs (Unit {0}) (λ _. tt) (λ before after c e.
    let p = h.each before after c e in
    record { some = p.some; part = p.uncovered; text = λ k low high. p.covered k low (omega (arith, length-append c.0 c.1)); part_first = p.part_first; text_last = p.text_last }) refl

pub are_chunks : (s : List ℕ) (cs : List Chunk) → joined cs ≡ s → AreChunksFrom s 0 (Unit {0}) cs → AreChunks s cs
are_chunks s cs j g = record {
  joins = j;
  each = λ before after c e.
      let p = each_from_groups (Uncovered s) (Covered s) cs before after c g e in
      record { some = p.some; uncovered = p.part; covered = λ k low high. p.text k low (omega (arith, length-append c.0 c.1)); part_first = p.part_first; text_last = p.text_last };
}

-- each string has chunks
pub some_chunks : (s : List ℕ) → (cs : List Chunk) × AreChunks s cs
some_chunks s =
    let g = grouped (Uncovered s) (Covered s) (λ k x. ¬ (IsCovered s k)) (λ k x. IsCovered s k) (over_none _) (over_none _) (over_first _) (over_first _) 0 s (each 0 s) in
    (g.0, are_chunks s g.0 g.2 g.1)
  where
    each : (i : ℕ) (xs : List ℕ) → EachIsOfOne (Uncovered s) (Covered s) (λ k x. ¬ (IsCovered s k)) (λ k x. IsCovered s k) (over_none _) (over_none _) (over_first _) (over_first _) i xs
    each i [] = tt
    each i (x ∷ xs) = (uncovered_or_covered s i, each (i + 1) xs)

some_bytes : (xs : List ℕ) → (xs ≡ [] → ⊥) → 0 < length xs
some_bytes xs h = ⊎_elim (λ e. absurd (h (nil_from_length xs e))) (λ ne. omega arith) (cases_eq (length xs) 0)

joined_size : (c : Chunk) (cs : List Chunk) → length (joined (c ∷ cs)) ≡ length c.0 + length c.1 + length (joined cs)
joined_size c cs = simp length-append (omega arith)

-- chunks of one part and one text
same_chunk : (c d : Chunk) → c.0 ≡ d.0 → c.1 ≡ d.1 → c ≡ d
same_chunk c d p t = ap (λ x. (x, c.1)) p ∙ ap (λ x. (d.0, x)) t

module _ (s : List ℕ) where
  -- the byte after a part is covered, unless nothing follows
  part_not_longer : (i : ℕ) (f g : Type 0) (c d : Chunk) (cs ds : List Chunk) → IsGroup (Uncovered s) (Covered s) i f c (cs ≡ []) → IsGroup (Uncovered s) (Covered s) i g d (ds ≡ []) → joined (c ∷ cs) ≡ joined (d ∷ ds) → length c.0 < length d.0 → ⊥
  part_not_longer i f g c d cs ds h k same lt = grind (arith, nat_tests, common_steps, joined_size, nil_from_length)

  -- the byte after a text is uncovered, unless nothing follows
  text_not_longer : (i : ℕ) (f g : Type 0) (c d : Chunk) (cs ds : List Chunk) → AreChunksFrom s i f (c ∷ cs) → IsGroup (Uncovered s) (Covered s) i g d (ds ≡ []) → joined (c ∷ cs) ≡ joined (d ∷ ds) → length c.0 ≡ length d.0 → length c.1 < length d.1 → ⊥
  text_not_longer i f g c d [] ds h k same e lt = let l = sym (joined_size c []) ∙ ap length same ∙ joined_size d ds in omega arith
  text_not_longer i f g c d (x ∷ cs) ds h k same e lt =
      let n = length-append c.0 c.1 in
      let some = some_bytes x.0 h.1.0.part_first in
      h.1.0.part (i + length (c.0 ++ c.1)) (omega arith) (omega arith) (k.text (i + length (c.0 ++ c.1)) (omega arith) (omega arith))

  one_list : (i : ℕ) (f g : Type 0) (cs ds : List Chunk) → AreChunksFrom s i f cs → AreChunksFrom s i g ds → joined cs ≡ joined ds → cs ≡ ds
  one_list i f g [] [] h k e = refl
  one_list i f g [] (d ∷ ds) h k e = let l = ap length e ∙ joined_size d ds in let n = length-append d.0 d.1 in let some = k.0.some in absurd (omega arith)
  one_list i f g (c ∷ cs) [] h k e = let l = ap length (sym e) ∙ joined_size c cs in let n = length-append c.0 c.1 in let some = h.0.some in absurd (omega arith)
  one_list i f g (c ∷ cs) (d ∷ ds) h k e =
      let parts : length c.0 ≡ length d.0 =
      ⊎_elim (λ lt. absurd (part_not_longer i f g c d cs ds h.0 k.0 e lt)) (λ ge. ⊎_elim (λ lt. absurd (part_not_longer i g f d c ds cs k.0 h.0 (sym e) lt)) (λ le. omega arith) (cases_lt (length d.0) (length c.0))) (cases_lt (length c.0) (length d.0)) in
      let p = append_same c.0 (c.1 ++ joined cs) d.0 (d.1 ++ joined ds) e parts in
      let texts : length c.1 ≡ length d.1 =
      ⊎_elim (λ lt. absurd (text_not_longer i f g c d cs ds h k.0 e parts lt)) (λ ge. ⊎_elim (λ lt. absurd (text_not_longer i g f d c ds cs k h.0 (sym e) (sym parts) lt)) (λ le. omega arith) (cases_lt (length d.1) (length c.1))) (cases_lt (length c.1) (length d.1)) in
      let t = append_same c.1 (joined cs) d.1 (joined ds) p.1 texts in
      let same : c ≡ d = same_chunk c d p.0 t.0 in
      let rest : cs ≡ ds = one_list (i + length (c.0 ++ c.1)) ⊥ ⊥ cs ds h.1 (subst (λ x. AreChunksFrom s (i + length (x.0 ++ x.1)) ⊥ ds) (sym same) k.1) t.1 in
      ap (λ x. x ∷ cs) same ∙ ap (λ x. d ∷ x) rest

-- and no others
pub chunks_once : (s : List ℕ) (cs ds : List Chunk) → AreChunks s cs → AreChunks s ds → cs ≡ ds
chunks_once s cs ds h k = one_list s 0 (Unit {0}) (Unit {0}) cs ds (chunks_from_start s cs h) (chunks_from_start s ds k) (h.joins ∙ sym k.joins)

pub ruleset one_list_of_chunks = (some_chunks, chunks_once)

-- the chunks of what follows a seam are chunks of s
module _ (s x r : List ℕ) (is : s ≡ x ++ r) (seam : CrossesNoCharacter s (length x)) where
  pub after_seam : (i : ℕ) (First : Type 0) (cs : List Chunk) → AreChunksFrom r i First cs → AreChunksFrom s (length x + i) First cs
  after_seam i First [] g = tt
  after_seam i First (c ∷ cs) g =
      let h = g.0 in
      let e : s ≡ x ++ (r ++ []) = is ∙ ap (λ y. x ++ y) (sym (append-nil r)) in
      let z : length x + (i + length (c.0 ++ c.1)) ≡ length x + i + length (c.0 ++ c.1) = omega arith in (
        record {
          some = h.some;
          part = λ k low high q. h.part (k - length x) (omega arith) (omega arith) (covered_after s x r k is seam (omega arith) q);
          text = λ k low high. let y : length x + (k - length x) ≡ k = omega arith in subst (IsCovered s) y (covered_within s x r [] (k - length x) e (h.text (k - length x) (omega arith) (omega arith)));
          part_first = h.part_first;
          text_last = h.text_last;
        },
        subst (λ n. AreChunksFrom s n ⊥ cs) z (after_seam (i + length (c.0 ++ c.1)) ⊥ cs g.1),
      )

-- a part and a text before a seam at which none or a part begins, and the chunks of what follows
pub one_more_chunk : (s p t r : List ℕ) (cs : List Chunk) → s ≡ p ++ (t ++ r) → 0 < length s → Uncovered s 0 p → Covered s (length p) t → CrossesNoCharacter s (length (p ++ t)) → (t ≡ [] → r ≡ []) → (0 < length r → ¬ (IsCovered s (length (p ++ t)))) → AreChunks r cs → AreChunks s ((p, t) ∷ cs)
one_more_chunk s p t r cs e some uncovered covered seam last ended h = are_chunks s ((p, t) ∷ cs) (ap (λ x. p ++ (t ++ x)) h.joins ∙ sym e) (
  record {
    some = ⊎_elim (λ z. let none = last (nil_from_length t z) in omega (arith, length-append p t, ap length none, long)) (λ ne. omega (arith, length-append p t)) (cases_eq (length t) 0);
    part = uncovered;
    text = λ k low high. covered k (omega arith) (omega arith);
    part_first = λ _. tt;
    text_last = λ none. no_more cs (h.joins ∙ last none) start;
  },
  after cs h.joins (subst (λ n. AreChunksFrom s n (Unit {0}) cs) (let z : length (p ++ t) + 0 ≡ 0 + length (p ++ t) = omega arith in z) (after_seam s (p ++ t) r (e ∙ sym (append_assoc p t r)) seam 0 (Unit {0}) cs start)),
)
  where
    long : length s ≡ length p + (length t + length r)
    long = simp length-append at (ap length e)

    start : AreChunksFrom r 0 (Unit {0}) cs
    start = chunks_from_start r cs h

    no_more : (cs : List Chunk) → joined cs ≡ [] → AreChunksFrom r 0 (Unit {0}) cs → cs ≡ []
    no_more [] j g = refl
    no_more (d ∷ ds) j g = let l = sym (joined_size d ds) ∙ ap length j in let n = length-append d.0 d.1 in let some = g.0.some in absurd (omega arith)

    after : (cs : List Chunk) → joined cs ≡ r → AreChunksFrom s (0 + length (p ++ t)) (Unit {0}) cs → AreChunksFrom s (0 + length (p ++ t)) ⊥ cs
    after [] j g = tt
    after (d ∷ ds) j g =
        let l = sym (joined_size d ds) ∙ ap length j in
        let n = length-append d.0 d.1 in
        let some = g.0.some in
        not_first (Uncovered s) (Covered s) (0 + length (p ++ t)) ⊥ d ds (λ none. ended (omega arith) (g.0.text (length (p ++ t)) (omega (arith, ap length none)) (omega (arith, ap length none)))) g
