-- Escapes, and their strings.
use Rattle.os_quote.proofs.Common.{text_escape, ◌≡◌, subst, ⊎_elim, inl, inr, ℕ, ◌<◌, ◌^◌, Bool, List, [], ◌∷◌, ◌++◌, map, length, refl, sym, ap, ◌∙◌, arith, append_assoc, append-nil, length-append, AllByRecursion, flat_map, false, IsUtf8, lt-ltb, le-ltb, cases_lt, recursion_from_All, Chunk, joined, AreChunks, HasNoCharacter, some_chunks, chunks_once, form_bounds, PartLaws, chunks_of, Item, item_text, item_texts, IsItem, unit_item, chunk_items, items_of, items_in, IsEscapeBy, IsBadEscapeBy, item_bytes, IsChunkOf, flat_map-append, escape_of, escape_in, shown_by, has_ending, before_ending, ending}
use Rattle.os_quote.specs.declared.form.Form.{Form}
use Rattle.wtf8_core.specs.PartUnits.{unit_bytes}
use Rattle.wtf8_core.proofs.lemmas.characters.AtIndices.{character_fits}
use Rattle.os_quote.proofs.lemmas.{Items.same_items, Texts.text_items, Texts.text_is_items, FirstUnits.text_and_rest, Endings.ending_is_item, Endings.joined_again, Endings.without_ending}
use Rattle.os_str_ext.proofs.lemmas.FirstChunk.{no_chunks}

pub all-append : {X : Type 0} (P : X → Type 0) (xs ys : List X) → AllByRecursion P xs → AllByRecursion P ys → AllByRecursion P (xs ++ ys)
all-append P [] ys a b = b
all-append P (x ∷ xs) ys a b = (a.0, all-append P xs ys a.1 b)

-- the items of units
pub unit_is_item : (shows : ℕ → Bool) (u : ℕ) → u < 2 ^ 16 → IsItem shows (unit_item u) × (item_bytes (unit_item u) ≡ unit_bytes u)
unit_is_item shows u h = ⊎_elim (λ l. rw (lt-ltb u 0x100 l) (l, refl)) (λ l. rw (le-ltb u 0x100 l) (h, refl)) (cases_lt u 0x100)

units_are_items : (shows : ℕ → Bool) (us : List ℕ) → AllByRecursion (λ u. u < 2 ^ 16) us → AllByRecursion (IsItem shows) (map unit_item us) × (flat_map item_bytes (map unit_item us) ≡ flat_map unit_bytes us)
units_are_items shows [] a = (tt, refl)
units_are_items shows (u ∷ us) a =
    let i = unit_is_item shows u a.0 in
    let r = units_are_items shows us a.1 in
    ((i.0, r.0), ap (λ x. x ++ flat_map item_bytes (map unit_item us)) i.1 ∙ ap (λ x. unit_bytes u ++ x) r.1)

some_unit_bytes : (u : ℕ) → 0 < length (unit_bytes u)
some_unit_bytes u = ⊎_elim (λ l. rw (lt-ltb u 0x100 l) (omega arith)) (λ l. rw (le-ltb u 0x100 l) (form_bounds u).0) (cases_lt u 0x100)

no_units : (us : List ℕ) → [] ≡ flat_map unit_bytes us → us ≡ []
no_units [] e = refl
no_units (u ∷ us) e = absurd (let l = ap length e in omega (arith, length-append (unit_bytes u) (flat_map unit_bytes us), some_unit_bytes u))

module _ (shows : ℕ → Bool) (well_formed : List ℕ → Type 0) (units : List ℕ → List ℕ) (part_units : List ℕ → Type 0) (parts : PartLaws well_formed units part_units) where
  -- the items of chunks mean the chunks' bytes
  chunk_is_items : (c : Chunk) → IsChunkOf well_formed c → AllByRecursion (IsItem shows) (chunk_items shows units c) × (flat_map item_bytes (chunk_items shows units c) ≡ c.0 ++ c.1)
  chunk_is_items c h =
      let u = units_are_items shows (units c.0) (recursion_from_All (λ v. v < 2 ^ 16) (units c.0) (parts.are_wide c.0 h.formed h.uncovered)) in
      let t = text_is_items shows c.1 h.text in (
        all-append (IsItem shows) (map unit_item (units c.0)) (text_items shows c.1) u.0 t.0,
        flat_map-append item_bytes (map unit_item (units c.0)) (text_items shows c.1) ∙ ap (λ x. x ++ flat_map item_bytes (text_items shows c.1)) (u.1 ∙ sym (parts.encoded c.0 h.formed h.uncovered)) ∙ ap (λ x. c.0 ++ x) t.1,
      )

  chunks_are_items : (cs : List Chunk) → AllByRecursion (IsChunkOf well_formed) cs → AllByRecursion (IsItem shows) (items_of shows units cs) × (flat_map item_bytes (items_of shows units cs) ≡ joined cs)
  chunks_are_items [] a = (tt, refl)
  chunks_are_items (c ∷ cs) a =
      let i = chunk_is_items c a.0 in
      let r = chunks_are_items cs a.1 in (
        all-append (IsItem shows) (chunk_items shows units c) (items_of shows units cs) i.0 r.0,
        flat_map-append item_bytes (chunk_items shows units c) (items_of shows units cs) ∙ ap (λ x. x ++ flat_map item_bytes (items_of shows units cs)) i.1 ∙ ap (λ x. (c.0 ++ c.1) ++ x) r.1 ∙ append_assoc c.0 c.1 (joined cs),
      )

module _ (form : Form) (well_formed : List ℕ → Type 0) (units : List ℕ → List ℕ) (part_units : List ℕ → Type 0) (parts : PartLaws well_formed units part_units)
    (each : (s : List ℕ) (cs : List Chunk) → well_formed s → AreChunks (before_ending form s) cs → AllByRecursion (IsChunkOf well_formed) cs) where
  -- what an escape's items are
  pub escape_is_items : (s text : List ℕ) → well_formed s → (e : IsEscapeBy form units s text) → AllByRecursion (IsItem (shown_by form)) (items_in form units e.chunks s) × (flat_map item_bytes (items_in form units e.chunks s) ≡ s)
  escape_is_items s text w e =
      let k = chunks_are_items (shown_by form) well_formed units part_units parts e.chunks (each s e.chunks w e.are_chunks) in
      let items = items_of (shown_by form) units e.chunks in (
        all-append (IsItem (shown_by form)) items (ending form s) k.0 (ending_is_item form s),
        flat_map-append item_bytes items (ending form s) ∙ ap (λ x. x ++ flat_map item_bytes (ending form s)) (k.1 ∙ e.are_chunks.joins) ∙ joined_again form s,
      )

  -- a text that is read whole is the escape of no string but the one that was read
  pub one_reading : (text : List ℕ) (items : List Item) (s : List ℕ) → AllByRecursion (IsItem (shown_by form)) items → text ≡ item_texts items → well_formed s → IsEscapeBy form units s text → s ≡ flat_map item_bytes items
  one_reading text items s a t w e =
      let k = escape_is_items s text w e in
      let q = same_items (shown_by form) (items_in form units e.chunks s) items [] [] k.0 a (inl refl) (inl refl) (ap (λ x. x ++ []) (sym e.text_is ∙ t)) in
      sym k.1 ∙ ap (flat_map item_bytes) q.0

  -- strings with equal escapes are equal
  pub one_string : (s t text : List ℕ) → well_formed s → well_formed t → IsEscapeBy form units s text → IsEscapeBy form units t text → s ≡ t
  one_string s t text w v e f = let k = escape_is_items t text v f in one_reading text (items_in form units f.chunks t) s k.0 f.text_is w e ∙ k.1

  -- an escape is never bad
  pub never_bad : (s text : List ℕ) (n : ℕ) → well_formed s → IsEscapeBy form units s text → ¬ (IsBadEscapeBy (shown_by form) text n)
  never_bad s text n w e b =
      let k = escape_is_items s text w e in
      let items = items_in form units e.chunks s in
      let q = same_items (shown_by form) items b.items [] b.rest k.0 b.are (inl refl) (inr b.bad) (append-nil (item_texts items) ∙ sym e.text_is ∙ b.joined) in
      cc

-- no bytes have no units
pub no_units_of_none : (well_formed : List ℕ → Type 0) (units : List ℕ → List ℕ) (part_units : List ℕ → Type 0) → PartLaws well_formed units part_units → well_formed [] → units [] ≡ []
no_units_of_none well_formed units part_units parts w = no_units (units []) (parts.encoded [] w uncovered)
  where
    uncovered : HasNoCharacter []
    uncovered i j q = let f = character_fits [] i j q in omega arith

-- a string has one escape
pub one_escape : (form : Form) (units : List ℕ → List ℕ) (s text other : List ℕ) → IsEscapeBy form units s text → IsEscapeBy form units s other → text ≡ other
one_escape form units s text other e f = e.text_is ∙ ap (λ x. item_texts (items_in form units x s)) (chunks_once (before_ending form s) e.chunks f.chunks e.are_chunks f.are_chunks) ∙ sym f.text_is

-- each string has one
pub escape_in_is : (form : Form) (units : List ℕ → List ℕ) (s : List ℕ) → IsEscapeBy form units s (escape_in form units s)
escape_in_is form units s = record {
  chunks = chunks_of (before_ending form s);
  are_chunks = (some_chunks (before_ending form s)).1;
  text_is = sym (flat_map-append item_text (items_of (shown_by form) units (chunks_of (before_ending form s))) (ending form s));
}

-- a text of which each character is unchanged, and which ends in no space that is a token, is its own escape
pub own_escape : (form : Form) (well_formed : List ℕ → Type 0) (units : List ℕ → List ℕ) (part_units : List ℕ → Type 0) → PartLaws well_formed units part_units → (t : List ℕ) → well_formed [] → IsUtf8 t → text_escape (shown_by form) t ≡ t → has_ending form t ≡ false → IsEscapeBy form units t t
own_escape form well_formed units part_units parts t w u own none =
    subst (IsEscapeBy form units t) (ap (λ x. escape_of (shown_by form) units x ++ item_texts (ending form t)) (without_ending form t none).0 ∙ ap (λ x. escape_of (shown_by form) units t ++ item_texts x) (without_ending form t none).1 ∙ append-nil (escape_of (shown_by form) units t) ∙ whole) (escape_in_is form units t)
  where
    shows : ℕ → Bool
    shows = shown_by form

    whole : escape_of shows units t ≡ t
    whole =
        ap (escape_of shows units) (sym (append-nil t))
        ∙ text_and_rest shows units (no_units_of_none well_formed units part_units parts w) t [] u
        ∙ ap (λ cs. text_escape shows t ++ item_texts (items_of shows units cs)) (no_chunks [] refl)
        ∙ append-nil (text_escape shows t) ∙ own

-- a text has one index at most at which no token begins
pub one_bad_index : (shows : ℕ → Bool) (text : List ℕ) (n m : ℕ) → IsBadEscapeBy shows text n → IsBadEscapeBy shows text m → n ≡ m
one_bad_index shows text n m a b =
    let q = same_items shows a.items b.items a.rest b.rest a.are b.are (inr a.bad) (inr b.bad) (sym a.joined ∙ b.joined) in
    a.index ∙ ap (λ x. length (item_texts x)) q.0 ∙ sym b.index
