-- What the chunks of a string are: each part is a string without whole characters, and each text is UTF-8.
use Rattle.os_str_ext.proofs.Common.{◌≡◌, ◌⊎◌, inl, inr, ⊎_elim, ℕ, ◌+◌, ◌<◌, ◌≤◌, List, [], ◌∷◌, ◌++◌, length, take, drop, refl, sym, ap, ◌∙◌, subst, arith, length-append, length-drop, All, AllByRecursion, IsUtf8, cases_eq, cases_Bool, false≢true, nil_from_length, All-from_recursion, IsBoundary, WholeCharacter, Chunk, joined, AreChunks, character_fits, some_chunks, chunks_once, chunks_of, IsChunkOf, IsFirstChunk}
use Rattle.std.specs.Str.{is_utf8, Lossy.utf8_valid_len}
use Rattle.std.proofs.lemmas.{List.take_all, Str.IsUtf8-from_is_utf8, Str.is_utf8-from_IsUtf8}
use Rattle.wtf8_core.proofs.lemmas.texts.AreWtf8.{valid_up_to}
use Rattle.os_str_ext.proofs.lemmas.FirstChunk.{first_of_parts, edges, part_is_uncovered, first_and_rest, no_character_after, text_from}

text_or_not : (r : List ℕ) → IsUtf8 r ⊎ (IsUtf8 r → ⊥)
text_or_not r = ⊎_elim (λ t. inl (IsUtf8-from_is_utf8 r t)) (λ f. inr (λ u. false≢true (sym f ∙ is_utf8-from_IsUtf8 r u))) (cases_Bool (is_utf8 r))

-- where the text ends that begins at index m
pub record TextEnd (s : List ℕ) (m e : ℕ) : Type 0 where
  pub ordered : m ≤ e
  pub within : e ≤ length s
  pub text : IsUtf8 (drop m (take e s))
  pub ended : (j : ℕ) → WholeCharacter s e j → ⊥

pub text_end : (s : List ℕ) (m : ℕ) → m ≤ length s → (e : ℕ) × TextEnd s m e
text_end s m within =
    ⊎_elim
    (λ u. (
      length s,
      record {
        ordered = within;
        within = omega arith;
        text = subst IsUtf8 (ap (drop m) (sym (take_all (length s) s (omega arith)))) u;
        ended = λ j w. let f = character_fits s (length s) j w in omega arith;
      },
    ))
    (λ n. let v = valid_up_to (drop m s) n in
    let short = v.short in (
      m + utf8_valid_len (drop m s),
      record {
        ordered = omega arith;
        within = omega (arith, length-drop m s);
        text = text_from s (drop m s) m (utf8_valid_len (drop m s)) refl v;
        ended = no_character_after s (drop m s) m (utf8_valid_len (drop m s)) refl v;
      },
    ))
    (text_or_not (drop m s))

-- where the part and the text of the first chunk end
first_ends : (s : List ℕ) (c : Chunk) (cs : List Chunk) → AreChunks s (c ∷ cs) → (e : ℕ) × IsFirstChunk s (length c.0) e
first_ends s c cs h =
    let m = length c.0 in
    let p = h.each [] cs c refl in
    let long : length (c.0 ++ (c.1 ++ joined cs)) ≡ length s = ap length h.joins in
    let size = length-append c.0 (c.1 ++ joined cs) in
    let t = text_end s m (omega arith) in
    let uncovered : (k j : ℕ) → k < m → WholeCharacter s k j → ⊥ = λ k j lt w. let f = character_fits s k j w in p.uncovered k (omega arith) (omega arith) (record { start = k; end = j; whole = w; from = omega arith; below = omega arith }) in
    let started : m < length s → (j : ℕ) × WholeCharacter s m j = λ lt.
    ⊎_elim
    (λ none. absurd (let last = p.text_last (nil_from_length c.1 none) in omega (arith, length-append c.1 (joined cs), ap (λ x. length (joined x)) last)))
    (λ some. let q = p.covered m (omega arith) (omega (arith, length-append c.0 c.1)) in
    let from = q.from in
    ⊎_elim (λ e. (q.end, subst (λ x. WholeCharacter s x q.end) e q.whole)) (λ ne. absurd (uncovered q.start q.end (omega arith) q.whole)) (cases_eq q.start m))
    (cases_eq (length c.1) 0) in
    let some : m < length s → m < t.0 = λ lt.
    ⊎_elim (λ q. absurd (let w = started lt in t.1.ended w.0 (subst (λ x. WholeCharacter s x w.0) q w.1))) (λ ne. omega (arith, t.1.ordered)) (cases_eq m t.0) in
    (t.0, first_of_parts s m t.0 uncovered some t.1.ordered t.1.within t.1.text t.1.ended)

same_head : {c d : Chunk} {cs ds : List Chunk} → c ∷ cs ≡ d ∷ ds → (c ≡ d) × (cs ≡ ds)
same_head {c} {d} {cs} {ds} e = (cc, cc)

-- where the text of the first chunk ends, and that the others are the chunks of what follows it
pub record FirstOf (s : List ℕ) (c : Chunk) (cs : List Chunk) : Type 0 where
  pub end : ℕ
  pub ends : IsFirstChunk s (length c.0) end
  pub is : c ≡ (take (length c.0) s, drop (length c.0) (take end s))
  pub others : AreChunks (drop end s) cs

pub first_of : (s : List ℕ) (c : Chunk) (cs : List Chunk) → AreChunks s (c ∷ cs) → FirstOf s c cs
first_of s c cs h =
    let f = first_ends s c cs h in
    let p = h.each [] cs c refl in
    let some : 0 < length s = let q = p.some in omega (arith, ap length h.joins, length-append c.0 (c.1 ++ joined cs), length-append c.1 (joined cs), length-append c.0 c.1) in
    let same = same_head (chunks_once s (c ∷ cs) (chunks_of s) h (some_chunks s).1 ∙ first_and_rest s (length c.0) f.0 f.1 some) in
    record { end = f.0; ends = f.1; is = same.0; others = subst (AreChunks (drop f.0 s)) (sym same.1) (some_chunks (drop f.0 s)).1 }

module _ (well_formed : List ℕ → Type 0)
    (cut_prefix : (b : List ℕ) (i : ℕ) → well_formed b → IsBoundary b i → well_formed (take i b))
    (cut_suffix : (b : List ℕ) (i : ℕ) → well_formed b → IsBoundary b i → well_formed (drop i b)) where
  pub are_chunks_of : (s : List ℕ) (cs : List Chunk) → well_formed s → AreChunks s cs → AllByRecursion (IsChunkOf well_formed) cs
  are_chunks_of s [] w h = tt
  are_chunks_of s (c ∷ cs) w h =
      let f = first_of s c cs h in
      let m = length c.0 in
      let p = h.each [] cs c refl in
      let ends = edges s m f.end f.ends in
      let first : IsChunkOf well_formed (take m s, drop m (take f.end s)) = record { formed = cut_prefix s m w ends.0; uncovered = part_is_uncovered s m f.end f.ends; text = f.ends.text; some = subst (λ d. 0 < length (d.0 ++ d.1)) f.is p.some } in
      (subst (IsChunkOf well_formed) (sym f.is) first, are_chunks_of (drop f.end s) cs (cut_suffix s f.end w ends.1) f.others)

  pub each_chunk : (s : List ℕ) → well_formed s → (cs : List Chunk) → AreChunks s cs → All (IsChunkOf well_formed) cs
  each_chunk s w cs h = All-from_recursion (IsChunkOf well_formed) cs (are_chunks_of s cs w h)
