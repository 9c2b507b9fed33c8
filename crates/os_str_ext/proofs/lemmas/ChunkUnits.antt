-- The units of a string's chunks, and that the chunks of a text have no parts.
use Rattle.os_str_ext.proofs.Common.{◌≡◌, ℕ, ◌<◌, List, [], ◌∷◌, ◌++◌, length, take, drop, refl, sym, ap, ◌∙◌, subst, arith, append_assoc, take-length, All-from_recursion, IsUtf8-nil, IsUtf8-append, All, AllByRecursion, flat_map, IsUtf8, IsBoundary, Chunk, joined, AreChunks, HasNoCharacter, IsChunkOf}
use Rattle.std.proofs.{Common.◌↔◌, lemmas.List.Elements.recursion_from_All}
use Rattle.wtf8_core.proofs.lemmas.{characters.AtIndices.none_begins, forms.Cuts.utf8_cut, texts.AreWtf8.no_text_begins}
use Rattle.os_str_ext.proofs.lemmas.{CutUnits.part_in_units, EachChunk.are_chunks_of, EachChunk.first_of, FirstChunk.edges}

module _ (well_formed : List ℕ → Type 0) (units : List ℕ → List ℕ) (none : units [] ≡ [])
    (cut_prefix : (b : List ℕ) (i : ℕ) → well_formed b → IsBoundary b i → well_formed (take i b))
    (cut_suffix : (b : List ℕ) (i : ℕ) → well_formed b → IsBoundary b i → well_formed (drop i b))
    (cut_units : (b : List ℕ) (i : ℕ) → well_formed b → IsBoundary b i → units b ≡ units (take i b) ++ units (drop i b)) where
  -- the units of the chunks, joined, are the string's
  pub units_joined : (s : List ℕ) → well_formed s → (cs : List Chunk) → AreChunks s cs → flat_map (λ c. units c.0 ++ units c.1) cs ≡ units s
  units_joined s w [] h = sym none ∙ ap units h.joins
  units_joined s w (c ∷ cs) h =
      let f = first_of s c cs h in
      let m = length c.0 in
      let part = take m s in
      let text = drop m (take f.end s) in
      let ends = edges s m f.end f.ends in
      ap (λ d. (units d.0 ++ units d.1) ++ flat_map (λ c. units c.0 ++ units c.1) cs) f.is
      ∙ ap (λ us. (units part ++ units text) ++ us) (units_joined (drop f.end s) (cut_suffix s f.end w ends.1) cs f.others)
      ∙ append_assoc (units part) (units text) (units (drop f.end s))
      ∙ sym (part_in_units well_formed units cut_prefix cut_units s m f.end w (record { ordered = f.ends.ordered; within = f.ends.within; start = ends.0; end = ends.1 }))

-- a text without whole characters is empty
no_uncovered_text : (t : List ℕ) → IsUtf8 t → HasNoCharacter t → t ≡ []
no_uncovered_text [] u uncovered = refl
no_uncovered_text (x ∷ t) u uncovered =
    let s = x ∷ t in
    let whole = sym (take-length s) in
    absurd (no_text_begins s (length s) (none_begins s (uncovered 0)) (subst IsUtf8 whole u) (subst (λ l. 0 < length l) whole (omega arith)))

abbrev HasNoPart : Chunk → Type 0
HasNoPart c = c.0 ≡ []

no_parts : (cs : List Chunk) → AllByRecursion (IsChunkOf IsUtf8) cs → AllByRecursion HasNoPart cs
no_parts [] h = tt
no_parts (c ∷ cs) h = (no_uncovered_text c.0 h.0.formed h.0.uncovered, no_parts cs h.1)

texts_joined : (cs : List Chunk) → AllByRecursion (IsChunkOf (λ b. Unit {0})) cs → AllByRecursion HasNoPart cs → IsUtf8 (joined cs)
texts_joined [] h none = IsUtf8-nil
texts_joined (c ∷ cs) h none =
    subst (λ part. IsUtf8 (part ++ (c.1 ++ joined cs))) (sym none.0) (IsUtf8-append c.1 (joined cs) h.0.text (texts_joined cs h.1 none.1))

-- bytes are a text exactly where their chunks have no parts
pub text_without_parts : (s : List ℕ) (cs : List Chunk) → AreChunks s cs → IsUtf8 s ↔ All (λ c. c.0 ≡ []) cs
text_without_parts s cs h = (
  λ u. All-from_recursion HasNoPart cs (no_parts cs (are_chunks_of IsUtf8 (λ b i v k. (utf8_cut b i v k).0) (λ b i v k. (utf8_cut b i v k).1) s cs u h)),
  λ none. subst IsUtf8 h.joins (texts_joined cs (are_chunks_of (λ b. Unit {0}) (λ b i w k. tt) (λ b i w k. tt) s cs tt h) (recursion_from_All HasNoPart cs none)),
)
