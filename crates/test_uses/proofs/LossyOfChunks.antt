-- The lossy text of a string by its chunks: their texts, with U+FFFD in place of the parts.
use Rattle.std.proofs.Common.{◌≡◌, ◌⊎◌, inl, inr, ⊎_elim, ℕ, zero, suc, ◌+◌, ◌-◌, ◌<◌, ◌≤◌, true, List, [], ◌∷◌, ◌++◌, length, take, drop, refl, sym, ap, ◌∙◌, subst, arith, append_assoc, append-nil, length-append, length-take, length-drop, take-append-drop}
use Rattle.std.proofs.Math.Seq.{take-append_seam, drop-append_seam, take-append-add}
use Rattle.std.proofs.Math.Utf8.{scalar}
use Rattle.std.proofs.lemmas.Bool.{and_parts, cases_eq}
use Rattle.std.proofs.lemmas.List.{drop-append-le, length-take-le, nil_from_length}
use Rattle.std.proofs.lemmas.List.Elements.{All-head, All-tail}
use Rattle.std.proofs.lemmas.Str.{IsUtf8-nil}
use Rattle.std.specs.Char.{encode_utf8}
use Rattle.std.specs.List.{All, repeat}
use Rattle.std.specs.Str.{IsUtf8, IsValidUpTo, all_scalars, encode_utf8_all}
use Rattle.wtf8_core.specs.Boundary.{IsBoundary}
use Rattle.wtf8_core.specs.Character.{WholeCharacter}
use Rattle.wtf8_core.specs.Chunks.{Chunk, joined, AreChunks}
use Rattle.wtf8_core.specs.CodePoint.{encode}
use Rattle.wtf8_core.specs.Covered.{StartsWithNoCharacter}
use Rattle.wtf8_core.specs.Lossy.{replacement}
use Rattle.wtf8_core.specs.Occurrence.{OccursAt}
use Rattle.os_str_ext.specs.Chunks.{IsChunkOf}
use Rattle.test_uses.specs.TextsBetween.{IsCountOf, AreTextsBetween, none, chunk, ReplacesNoCharacter}

-- a list begins with a whole character
abbrev StartsWhole : List ℕ → Type 0
StartsWhole s = (j : ℕ) × WholeCharacter s 0 j

-- a whole character of what follows a prefix is one of the whole list
later : (before s : List ℕ) (i j : ℕ) → WholeCharacter s i j → WholeCharacter (before ++ s) (length before + i) (length before + j)
later before s i j w =
    let st = w.occurs in
    let end = w.end in
    record {
      char = w.char;
      scalar = w.scalar;
      occurs = record { before = before ++ st.before; after = st.after; joined = ap (λ x. before ++ x) st.joined ∙ sym (append_assoc before st.before (encode w.char ++ st.after)); index = length-append before st.before ∙ ap (λ n. length before + n) st.index };
      end = omega (arith, end);
    }

-- the bytes of the chunks before and those of the others
joined-append : (before after : List Chunk) → joined (before ++ after) ≡ joined before ++ joined after
joined-append [] after = refl
joined-append (c ∷ before) after =
    ap (λ x. c.0 ++ (c.1 ++ x)) (joined-append before after) ∙ ap (λ x. c.0 ++ x) (sym (append_assoc c.1 (joined before) (joined after))) ∙ sym (append_assoc c.0 (c.1 ++ joined before) (joined after))

-- one more U+FFFD before so many others
one_more : (all rest tail : List ℕ) (count : ℕ) → all ≡ replacement ++ rest → rest ≡ repeat count replacement ++ tail → all ≡ repeat (suc count) replacement ++ tail
one_more all rest tail count e f = e ∙ ap (λ x. replacement ++ x) f ∙ sym (append_assoc replacement (repeat count replacement) tail)

-- how a part before a rest of the string is replaced
record Part (well_formed : List ℕ → Type 0) (lossy : List ℕ → List ℕ) (part tail : List ℕ) : Type 0 where
  count : ℕ
  is : IsCountOf part count
  lossy_is : lossy (part ++ tail) ≡ repeat count replacement ++ lossy tail
  formed : well_formed tail

-- by what the laws state about forms
module _ (forms : (c : ℕ) → encode c ≡ encode_utf8 c) where
  -- a text that isn't empty begins with a whole character
  pub begins : (t rest : List ℕ) → IsUtf8 t → 0 < length t → StartsWhole (t ++ rest)
  begins t rest u some = by u.0 u.1.0 u.1.1
    where
      by : (cs : List ℕ) → all_scalars cs ≡ true → encode_utf8_all cs ≡ t → StartsWhole (t ++ rest)
      by [] s e = absurd (let l = ap length e in omega (arith, l, some))
      by (c ∷ cs) s e = (
        length (encode c),
        record {
          char = c;
          scalar = (and_parts (scalar c) _ s).0;
          occurs = record { before = []; after = encode_utf8_all cs ++ rest; joined = ap (λ x. x ++ rest) (sym e) ∙ append_assoc (encode_utf8 c) (encode_utf8_all cs) rest ∙ ap (λ x. x ++ (encode_utf8_all cs ++ rest)) (sym (forms c)); index = refl };
          end = omega arith;
        },
      )

-- and of characters and boundaries
module _ (forms : (c : ℕ) → encode c ≡ encode_utf8 c)
    (fits : (s : List ℕ) (i j : ℕ) → WholeCharacter s i j → (i + 1 ≤ j) × (j ≤ i + 4) × (j ≤ length s))
    (edges : (p s : List ℕ) (i : ℕ) → IsUtf8 p → 0 < length p → OccursAt p s i → IsBoundary s i × IsBoundary s (i + length p))
    (cut : (b : List ℕ) (i : ℕ) → IsUtf8 b → IsBoundary b i → IsUtf8 (take i b) × IsUtf8 (drop i b)) where
  -- a text at the start ends at a boundary
  edge : (t rest : List ℕ) → IsUtf8 t → IsBoundary (t ++ rest) (length t)
  edge [] rest u = record { is = inl refl }
  edge (x ∷ t) rest u = subst (IsBoundary ((x ∷ t) ++ rest)) (omega arith) (edges (x ∷ t) ((x ∷ t) ++ rest) 0 u (omega arith) (record { before = []; after = rest; joined = refl; index = refl })).1

  -- it is the longest text at the start where none begins after it
  longest_text : (t rest : List ℕ) → IsUtf8 t → 0 < length rest → StartsWithNoCharacter rest → IsValidUpTo (t ++ rest) (length t)
  longest_text t rest u some uncovered = record {
    short = omega (arith, some, length-append t rest);
    front = subst IsUtf8 (sym (take-append_seam t rest)) u;
    longest = λ m l v.
        let k = m - length t in
        let e : take m (t ++ rest) ≡ t ++ take k rest = ap (λ n. take n (t ++ rest)) (omega (arith, l)) ∙ take-append-add t rest k in
        let more = (cut (t ++ take k rest) (length t) (subst IsUtf8 e v) (edge t (take k rest) u)).1 in
        let first = begins forms (take k rest) (drop k rest) (subst IsUtf8 (drop-append_seam t (take k rest)) more) (simp length-take (omega (arith, l, some))) in
        uncovered first.0 (subst (λ x. WholeCharacter x 0 first.0) (take-append-drop k rest) first.1);
  }

  -- what follows a part is nothing or begins with a whole character
  text_next : (t rest : List ℕ) → IsUtf8 t → (t ≡ [] → rest ≡ []) → (t ++ rest ≡ []) ⊎ StartsWhole (t ++ rest)
  text_next [] rest u e = inl (e refl)
  text_next (x ∷ t) rest u e = inr (begins forms (x ∷ t) rest u (omega arith))

  module _ (well_formed : List ℕ → Type 0) (lossy : List ℕ → List ℕ)
      (text : (b : List ℕ) → IsUtf8 b → lossy b ≡ b)
      (prefix : (b : List ℕ) (n : ℕ) → well_formed b → IsValidUpTo b n → lossy b ≡ take n b ++ lossy (drop n b))
      (suffix : (b : List ℕ) (i : ℕ) → well_formed b → IsBoundary b i → well_formed (drop i b))
      (one : ReplacesNoCharacter well_formed lossy) where
    -- a text stays
    kept : (t rest : List ℕ) → IsUtf8 t → (rest ≡ []) ⊎ StartsWithNoCharacter rest → well_formed (t ++ rest) → lossy (t ++ rest) ≡ t ++ lossy rest
    kept t [] u after w = ap lossy (append-nil t) ∙ text t u ∙ sym (append-nil t) ∙ ap (λ x. t ++ x) (sym (text [] IsUtf8-nil))
    kept t (x ∷ rest) u (inl e) w = absurd (let l = ap length e in omega (arith, l))
    kept t (x ∷ rest) u (inr uncovered) w =
        prefix (t ++ x ∷ rest) (length t) w (longest_text t (x ∷ rest) u (omega arith) uncovered)
        ∙ ap (λ y. y ++ lossy (drop (length t) (t ++ x ∷ rest))) (take-append_seam t (x ∷ rest))
        ∙ ap (λ y. t ++ lossy y) (drop-append_seam t (x ∷ rest))

    -- a part is replaced step by step
    replaced : (k : ℕ) (p tail : List ℕ) → length p ≤ k → well_formed (p ++ tail) → ((i j : ℕ) → i < length p → WholeCharacter (p ++ tail) i j → ⊥) → (tail ≡ []) ⊎ StartsWhole tail → Part well_formed lossy p tail
    replaced k [] tail long w uncovered next = record { count = 0; is = record { some = λ l. l; most = omega arith }; lossy_is = refl; formed = w }
    replaced zero (x ∷ p) tail long w uncovered next = absurd (omega (arith, long))
    replaced (suc k) (x ∷ p) tail long w uncovered next =
        let all = x ∷ p in
        let r = one (all ++ tail) w (omega arith) (λ j c. uncovered 0 j (omega arith) c) in
        let n = r.0 in
        let is = r.1.0 in
        let some = is.some in
        let fit = is.within in
        let within : n ≤ length all = ⊎_elim (λ e. let l = ap length e in omega (arith, fit, l, length-append all tail)) (λ q. let c = r.1.1 _ _ (later all tail 0 q.0 q.1) in omega (arith, c)) next in
        let rest : drop n (all ++ tail) ≡ drop n all ++ tail = drop-append-le n all tail within in
        let cut_at : take n all ++ (drop n all ++ tail) ≡ all ++ tail = sym (append_assoc (take n all) (drop n all) tail) ∙ ap (λ y. y ++ tail) (take-append-drop n all) in
        let size = length-drop n all in
        let taken : length (take n all) ≡ n = length-take-le n all within in
        let others = replaced k (drop n all) tail (omega (arith, size, some, long)) (subst well_formed rest is.after)
        (λ i j l c. uncovered (length (take n all) + i) (length (take n all) + j) (omega (arith, l, size, taken)) (subst (λ y. WholeCharacter y (length (take n all) + i) (length (take n all) + j)) cut_at (later (take n all) (drop n all ++ tail) i j c))) next in
        let most = others.is.most in
        record {
          count = suc others.count;
          is = record { some = λ l. omega arith; most = omega (arith, most, size, some, within) };
          lossy_is = one_more (lossy (all ++ tail)) (lossy (drop n all ++ tail)) (lossy tail) others.count (is.lossy_is ∙ ap (λ b. replacement ++ lossy b) rest) others.lossy_is;
          formed = others.formed;
        }

    module _ (s : List ℕ) (chunks : List Chunk) (are : AreChunks s chunks) where
      whole : (before after : List Chunk) → chunks ≡ before ++ after → s ≡ joined before ++ joined after
      whole before after e = sym are.joins ∙ ap joined e ∙ joined-append before after

      -- no whole character starts in a part
      part_uncovered : (before after : List Chunk) (c : Chunk) → chunks ≡ before ++ c ∷ after → (i j : ℕ) → i < length c.0 → WholeCharacter (joined (c ∷ after)) i j → ⊥
      part_uncovered before after c e i j l w =
          let here = length (joined before) in
          let moved : WholeCharacter s (here + i) (here + j) = subst (λ x. WholeCharacter x (here + i) (here + j)) (sym (whole before (c ∷ after) e)) (later (joined before) (joined (c ∷ after)) i j w) in
          let fit = (fits (joined (c ∷ after)) i j w).0 in
          (are.each before after c e).uncovered (here + i) (omega arith) (omega (arith, l)) (record { start = here + i; end = here + j; whole = moved; from = omega arith; below = omega (arith, fit) })

      -- nothing follows a chunk, or a part that isn't empty
      part_next : (before after : List Chunk) (c : Chunk) → chunks ≡ before ++ c ∷ after → (joined after ≡ []) ⊎ StartsWithNoCharacter (joined after)
      part_next before [] c e = inl refl
      part_next before (d ∷ after) c e = inr (λ j w.
          let e' : chunks ≡ (before ++ c ∷ []) ++ d ∷ after = e ∙ sym (append_assoc before (c ∷ []) (d ∷ after)) in
          let some : 0 < length d.0 = ⊎_elim (λ z. absurd (let l = ap length ((are.each (before ++ c ∷ []) after d e').part_first (nil_from_length d.0 z)) in omega (arith, l, length-append before (c ∷ [])))) (λ nz. omega (arith, nz)) (cases_eq (length d.0) 0) in
          part_uncovered (before ++ c ∷ []) after d e' 0 j some w)

      from : (before after : List Chunk) → chunks ≡ before ++ after → All (IsChunkOf well_formed) after → well_formed (joined after) → AreTextsBetween after (lossy (joined after))
      from before [] e all w = subst (AreTextsBetween []) (sym (text [] IsUtf8-nil)) none
      from before (c ∷ after) e all w =
          let is = All-head (IsChunkOf well_formed) c after all in
          let pair = are.each before after c e in
          let rest = joined after in
          let next = text_next c.1 rest is.text (λ z. ap joined (pair.text_last z)) in
          let part = replaced (length c.0) c.0 (c.1 ++ rest) (omega arith) w (part_uncovered before after c e) next in
          let stays = kept c.1 rest is.text (part_next before after c e) part.formed in
          let formed = subst well_formed (drop-append_seam c.1 rest) (suffix (c.1 ++ rest) (length c.1) part.formed (edge c.1 rest is.text)) in
          let others = from (before ++ c ∷ []) after (e ∙ sym (append_assoc before (c ∷ []) after)) (All-tail (IsChunkOf well_formed) c after all) formed in
          subst (AreTextsBetween (c ∷ after)) (sym (part.lossy_is ∙ ap (λ x. repeat part.count replacement ++ x) stays)) (chunk part.count part.is others)

      pub texts_between : All (IsChunkOf well_formed) chunks → well_formed s → AreTextsBetween chunks (lossy s)
      texts_between all w = subst (λ x. AreTextsBetween chunks (lossy x)) are.joins (from [] chunks refl all (subst well_formed (sym are.joins) w))
