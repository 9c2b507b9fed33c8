-- The first chunk by where its part and its text end, and the chunks after it.
use Rattle.os_str_ext.proofs.Common.{◌≡◌, ⊎_elim, inl, inr, ℕ, ◌+◌, ◌-◌, ◌<◌, ◌≤◌, List, [], ◌∷◌, ◌++◌, length, take, drop, sym, ap, ◌∙◌, subst, arith, length-append, length-drop, take-append-drop, append_assoc, cases_lt, cases_eq, length-take-le, take-take, drop-take, IsUtf8-nil, IsUtf8-append, IsUtf8-encode, take-add, IsUtf8, IsBoundary, WholeCharacter, IsCovered, HasNoCharacter, Chunk, OccursAt, encode, character_fits, begins_at, form_encode, some_chunks, chunks_once, in_rest, whole_within, chunks_of, IsFirstChunk}
use Rattle.std.proofs.{lemmas.List.drop_all, lemmas.List.drop-append-le, Math.Seq.take-append_seam}
use Rattle.std.specs.Str.{IsValidUpTo}
use Rattle.wtf8_core.specs.Covered.{CrossesNoCharacter}
use Rattle.wtf8_core.proofs.lemmas.{chunks.OneList.one_more_chunk, occurrence.Boundaries.edges_of_text, characters.Seams.Uncovered, characters.Seams.text_covered, characters.Seams.seam_after_uncovered}

-- the three parts of a string that is cut twice
cut_twice : (s : List ℕ) (m e : ℕ) → m ≤ e → s ≡ take m s ++ (drop m (take e s) ++ drop e s)
cut_twice s m e le =
    sym (take-append-drop e s) ∙ ap (λ x. x ++ drop e s) (sym (take-append-drop m (take e s)) ∙ ap (λ x. x ++ drop m (take e s)) (take-take m e s le)) ∙ append_assoc (take m s) (drop m (take e s)) (drop e s)

module _ (s : List ℕ) (m e : ℕ) (ordered : m ≤ e) (within : e ≤ length s) where
  prefix_size : length (take m s) ≡ m
  prefix_size = length-take-le m s (omega arith)

  text_size : length (take m s) + length (drop m (take e s)) ≡ e
  text_size = omega (arith, prefix_size, length-take-le e s within, length-drop m (take e s))

  -- no byte of the first m lies in a whole character
  uncovered_in_prefix : ((k : ℕ) → k < m → ¬ (IsCovered s k)) → Uncovered s 0 (take m s)
  uncovered_in_prefix h k low high = h k (omega (arith, prefix_size))

  -- the bytes of a text after those lie in whole characters
  text_in_rest : ((k : ℕ) → k < m → ¬ (IsCovered s k)) → IsUtf8 (drop m (take e s)) → CrossesNoCharacter s e
  text_in_rest h u = subst (CrossesNoCharacter s) text_size (text_covered s (take m s) (drop m (take e s)) (drop e s) (cut_twice s m e ordered) u (seam_after_uncovered s (take m s) (uncovered_in_prefix h))).1

-- one more character of a text
pub text_grows : (s : List ℕ) (i j k : ℕ) → i ≤ j → IsUtf8 (drop i (take j s)) → WholeCharacter s j k → IsUtf8 (drop i (take k s))
text_grows s i j k le u w =
    let f = character_fits s j k w in
    let end = w.end in
    let short : length (take j s) ≡ j = length-take-le j s (omega arith) in
    let n = length (encode w.char) in
    let split : take k s ≡ take j s ++ encode w.char =
    ap (λ m. take m s) end ∙ take-add j n s ∙ ap (λ x. take j s ++ take n x) (begins_at s j k w) ∙ ap (λ x. take j s ++ x) (take-append_seam (encode w.char) w.occurs.after) in
    subst IsUtf8 (sym (ap (drop i) split ∙ drop-append-le i (take j s) (encode w.char) (omega arith))) (IsUtf8-append _ _ u (subst IsUtf8 (sym (form_encode w.char)) (IsUtf8-encode w.char w.scalar)))

-- no bytes are a text
empty_text : (s : List ℕ) (m : ℕ) → m ≤ length s → IsUtf8 (drop m (take m s))
empty_text s m h = subst IsUtf8 (sym (drop_all m (take m s) (omega (arith, length-take-le m s h)))) IsUtf8-nil

-- no character starts in the part, a text follows it, and no character starts after that
pub first_of_parts : (s : List ℕ) (m e : ℕ) → ((k j : ℕ) → k < m → WholeCharacter s k j → ⊥) → (m < length s → m < e) → m ≤ e → e ≤ length s → IsUtf8 (drop m (take e s)) → ((j : ℕ) → WholeCharacter s e j → ⊥) → IsFirstChunk s m e
first_of_parts s m e none some ordered within text last = record {
  ordered = ordered;
  within = within;
  uncovered = uncovered;
  text = text;
  some = some;
  ended = λ lt c.
      let from = c.from in
      ⊎_elim (λ q. last c.end (subst (λ x. WholeCharacter s x c.end) q c.whole)) (λ ne. text_in_rest s m e ordered within uncovered text c.start c.end c.whole (omega arith) c.below) (cases_eq c.start e);
}
  where
    uncovered : (k : ℕ) → k < m → ¬ (IsCovered s k)
    uncovered k lt c = let from = c.from in none c.start c.end (omega arith) c.whole

-- if no whole character starts anywhere, everything is the part
pub without_character : (s : List ℕ) → ((k j : ℕ) → WholeCharacter s k j → ⊥) → IsFirstChunk s (length s) (length s)
without_character s h =
    first_of_parts s (length s) (length s) (λ k j _. h k j) (λ lt. absurd (omega (arith, lt))) (omega arith) (omega arith) (empty_text s (length s) (omega arith)) (h (length s))

module _ (s : List ℕ) (m e : ℕ) (h : IsFirstChunk s m e) where
  -- if the text isn't empty, it starts and ends at boundaries
  text_edges : m < e → IsBoundary s m × IsBoundary s e
  text_edges lt =
      let ordered = h.ordered in
      let t = drop m (take e s) in
      let size = text_size s m e h.ordered h.within in
      let prefix = prefix_size s m e h.ordered h.within in
      let z : m + length t ≡ e = omega arith in
      let occurs : OccursAt t s m = record { before = take m s; after = drop e s; joined = cut_twice s m e h.ordered; index = prefix } in
      subst (λ x. IsBoundary s m × IsBoundary s x) z (edges_of_text t s m h.text (omega arith) occurs)

  -- so does an empty one
  pub edges : IsBoundary s m × IsBoundary s e
  edges =
      let ordered = h.ordered in
      let within = h.within in
      ⊎_elim text_edges (λ ge. ⊎_elim (λ lt. absurd (let some = h.some lt in omega arith))
      (λ end. let p : m ≡ length s = omega arith in let q : e ≡ length s = omega arith in (record { is = inr (inl p) }, record { is = inr (inl q) })) (cases_lt m (length s))) (cases_lt m e)

  -- the part has no whole character
  pub part_is_uncovered : HasNoCharacter (take m s)
  part_is_uncovered i j w =
      let f = character_fits (take m s) i j w in
      let size = prefix_size s m e h.ordered h.within in
      let v = whole_within s [] (take m s) (drop m s) i j (sym (take-append-drop m s)) w in
      h.uncovered i (omega arith) (record { start = 0 + i; end = 0 + j; whole = v; from = omega arith; below = omega arith })

  -- and the chunks are the first one and those of the rest
  pub first_and_rest : 0 < length s → chunks_of s ≡ (take m s, drop m (take e s)) ∷ chunks_of (drop e s)
  first_and_rest some =
      let ordered = h.ordered in
      let within = h.within in
      let p = take m s in
      let t = drop m (take e s) in
      let r = drop e s in
      let uncovered = uncovered_in_prefix s m e h.ordered h.within h.uncovered in
      let size : length (p ++ t) ≡ e = length-append p t ∙ text_size s m e h.ordered h.within in
      let text = text_covered s p t r (cut_twice s m e h.ordered) h.text (seam_after_uncovered s p uncovered) in
      let last : t ≡ [] → r ≡ [] = λ none.
      let l : length t ≡ 0 = ap length none in
      let a = text_size s m e h.ordered h.within in
      let b = prefix_size s m e h.ordered h.within in
      drop_all e s (⊎_elim (λ lt. absurd (let c = h.some lt in omega arith)) (λ ge. omega arith) (cases_lt m (length s))) in
      chunks_once s (chunks_of s) ((p, t) ∷ chunks_of r) (some_chunks s).1
      (one_more_chunk s p t r (chunks_of r) (cut_twice s m e h.ordered) some uncovered text.0 (subst (CrossesNoCharacter s) (sym size) (text_in_rest s m e h.ordered h.within h.uncovered h.text)) last (λ lt. subst (λ n. ¬ (IsCovered s n)) (sym size) (h.ended (omega (arith, length-drop e s)))) (some_chunks r).1)

-- chunks of equal bytes
pub same_first : {p q t u r v : List ℕ} → p ≡ q → t ≡ u → r ≡ v → (p, t) ∷ chunks_of r ≡ (q, u) ∷ chunks_of v
same_first {p} {q} {t} {u} {r} {v} e f g = ap (λ x. (x, t) ∷ chunks_of r) e ∙ ap (λ x. (q, x) ∷ chunks_of r) f ∙ ap (λ x. (q, u) ∷ chunks_of x) g

-- no bytes have no chunks
pub no_chunks : (s : List ℕ) → s ≡ [] → chunks_of s ≡ []
no_chunks s e = chunks_once s (chunks_of s) [] (some_chunks s).1 (record { joins = sym e; each = λ before after c q. absurd (never before c after q) })
  where
    never : (before : List Chunk) (c : Chunk) (after : List Chunk) → [] ≡ before ++ c ∷ after → ⊥
    never [] c after q = cc
    never (b ∷ before) c after q = cc

-- where the first fault of what comes from an index on is: the bytes before it are a text, and no character starts there
module _ (s rest : List ℕ) (i v : ℕ) (is : rest ≡ drop i s) (valid : IsValidUpTo rest v) where
  pub text_from : IsUtf8 (drop i (take (i + v) s))
  text_from = subst IsUtf8 (sym (drop-take i v s ∙ ap (take v) (sym is))) valid.front

  pub no_character_after : (j : ℕ) → ¬ (WholeCharacter s (i + v) j)
  no_character_after j w =
      let f = character_fits s (i + v) j w in
      let z : i + v - i ≡ v = omega arith in
      let c : WholeCharacter rest v (j - i) = subst (λ r. WholeCharacter r v (j - i)) (sym is) (subst (λ n. WholeCharacter (drop i s) n (j - i)) z (in_rest s (i + v) j i w (omega arith))) in
      valid.longest (j - i) (omega arith) (text_grows rest 0 v (j - i) (omega arith) valid.front c)
