-- How far a text has been read.
use Rattle.os_quote.proofs.Common.{get_or, take_at, encode_ascii, IsUtf8-take, IsCharBoundary-before_ascii, IsCutAtFirst, ◌≡◌, ⊎_elim, inl, inr, ℕ, zero, suc, Bool, ◌-◌, ◌<◌, ◌/◌, ◌%◌, List, [], ◌∷◌, ◌++◌, length, refl, sym, ap, ◌∙◌, subst, arith, append_assoc, append-nil, length-append, AllByRecursion, flat_map, IsUtf8, IsAscii, cases_lt, IsUtf8-nil, IsUtf8-append, IsUtf8-encode, IsUtf8-from_ascii, Chunk, AreChunks, PartLaws, upper_hex_digit, Item, Character, Backslash, ByteUnit, WideUnit, LongCharacter, backslash, wide_digits, long_digits, item_text, item_texts, IsLong, IsItem, is_any, BeginsNoToken, IsBadEscapeBy, IsEscapeBy, items_in, before_ending, shown_by, HasNoBackslash, IsCutAtToken, IsRead, item_bytes, IsChunkOf, flat_map-append}
use Rattle.std.proofs.Math.Seq.{get_or-append_seam}
use Rattle.os_quote.specs.declared.form.Form.{Form}
use Rattle.os_quote.proofs.lemmas.{Items.no_brace, Items.five_digits, Items.six_digits, Items.same_items, Texts.text_items, Texts.text_is_items, Texts.shown_unchanged, Texts.unchanged_text, Texts.text_after, Escapes.all-append, Escapes.one_reading, Escapes.escape_is_items}

-- the first backslash of a text is between two texts, and its first token where each character is shown
pub cut_of_text : {t bytes prefix following : List ℕ} → IsUtf8 t → bytes ≡ t → IsCutAtFirst bytes prefix following → IsCutAtToken is_any t prefix backslash following
cut_of_text {prefix = prefix} {following = following} u same k =
    let n = length prefix in
    let whole = prefix ++ backslash ∷ following in
    let v : IsUtf8 whole = subst IsUtf8 (sym same ∙ k.joined) u in
    let low : n < length whole = omega (arith, length-append prefix (backslash ∷ following)) in
    let ascii : get_or whole n 0 < 128 = omega (arith, get_or-append_seam prefix backslash following 0) in
    let f : IsUtf8 prefix = subst IsUtf8 (take_at prefix (backslash ∷ following) n refl) (IsUtf8-take whole n v (IsCharBoundary-before_ascii whole n low ascii)) in
    let slash = encode_ascii backslash (omega arith) in
    record {
      unchanged = shown_unchanged prefix f k.none_before;
      hidden = λ h. h.0 refl;
      joined = sym same ∙ k.joined ∙ ap (λ x. prefix ++ (x ++ following)) (sym slash);
      prefix_text = f;
      after_text = text_after (backslash ∷ []) following (subst IsUtf8 slash (IsUtf8-encode backslash refl)) (text_after prefix (backslash ∷ following) f v);
    }

-- an item other than a character
abbrev pub IsToken : Item → Type 0
IsToken (Character c) = ⊥
IsToken i = Unit {0}

pub ascii_all : (bs : List ℕ) → AllByRecursion (λ b. b < 128) bs → IsAscii bs
ascii_all [] h i = omega arith
ascii_all (b ∷ bs) h zero = h.0
ascii_all (b ∷ bs) h (suc i) = ascii_all bs h.1 i

-- what holds for each digit and each other byte of tokens holds for all bytes of a token
module _ (P : ℕ → Type 0) (digit : (d : ℕ) → d < 16 → P (upper_hex_digit d)) (others : AllByRecursion P (backslash ∷ 0x78 ∷ 0x75 ∷ 0x7B ∷ 0x7D ∷ [])) where
  wide_all : (u : ℕ) (after : List ℕ) → u < 0x1_0000 → AllByRecursion P after → AllByRecursion P (wide_digits u ++ after)
  wide_all u after h a = (digit (u / 0x100 / 0x10) (omega arith), (digit (u / 0x100 % 0x10) (omega arith), (digit (u % 0x100 / 0x10) (omega arith), (digit (u % 0x100 % 0x10) (omega arith), a))))

  long_all : (c : ℕ) → IsLong c → AllByRecursion P (long_digits c ++ 0x7D ∷ [])
  long_all c h = ⊎_elim
      (λ l. rw (five_digits c l) (digit (c / 0x1_0000) (omega (arith, l)), wide_all (c % 0x1_0000) (0x7D ∷ []) (omega arith) others.1.1.1.1))
      (λ l. rw (six_digits c l) (digit (c / 0x1_0000 / 0x10) (omega arith), (digit (c / 0x1_0000 % 0x10) (omega arith), wide_all (c % 0x1_0000) (0x7D ∷ []) (omega arith) others.1.1.1.1)))
      (cases_lt c 0x10_0000)

  pub token_all : (shows : ℕ → Bool) (i : Item) → IsItem shows i → IsToken i → AllByRecursion P (item_text i)
  token_all shows (Character c) h never = absurd never
  token_all shows Backslash h is = (others.0, (others.0, tt))
  token_all shows (ByteUnit u) h is = (others.0, (others.1.0, (digit (u / 0x10) (omega arith), (digit (u % 0x10) (omega arith), tt))))
  token_all shows (WideUnit u) h is = (others.0, (others.1.1.0, subst (AllByRecursion P) (append-nil (wide_digits u)) (wide_all u [] h tt)))
  token_all shows (LongCharacter c) h is = (others.0, (others.1.1.0, (others.1.1.1.0, long_all c h.1)))

module _ (shows : ℕ → Bool) where
  -- tokens are ASCII
  pub token_ascii : (i : Item) → IsItem shows i → IsToken i → AllByRecursion (λ b. b < 128) (item_text i)
  token_ascii = token_all (λ b. b < 128) (λ d h. omega (arith, no_brace d h)) (omega arith, (omega arith, (omega arith, (omega arith, (omega arith, tt))))) shows

  pub item_is_text : (i : Item) → IsItem shows i → IsUtf8 (item_text i)
  item_is_text (Character c) h = IsUtf8-encode c h.0
  item_is_text i h = IsUtf8-from_ascii (item_text i) (ascii_all (item_text i) (token_ascii i h tt))

  items_are_text : (items : List Item) → AllByRecursion (IsItem shows) items → IsUtf8 (item_texts items)
  items_are_text [] h = IsUtf8-nil
  items_are_text (i ∷ items) h = IsUtf8-append (item_text i) (item_texts items) (item_is_text i h.0) (items_are_text items h.1)

  -- some items more
  read_items : (text out rest : List ℕ) (items : List Item) (after : List ℕ) → IsRead shows text out rest → AllByRecursion (IsItem shows) items → rest ≡ item_texts items ++ after → IsUtf8 after → IsRead shows text (out ++ flat_map item_bytes items) after
  read_items text out rest items after r a e u = grind (arith, all-append, item_texts, append_assoc, flat_map-append, item_text, item_bytes)

  -- the items of the form that shows every character are items of each form
  shown_item : (i : Item) → IsItem is_any i → IsItem shows i
  shown_item Backslash h = tt
  shown_item (LongCharacter c) h = let n = h.0.hidden in cc
  shown_item i h = h

  shown_items : (items : List Item) → AllByRecursion (IsItem is_any) items → AllByRecursion (IsItem shows) items
  shown_items [] a = tt
  shown_items (i ∷ items) a = (shown_item i a.0, shown_items items a.1)

  -- a text up to a backslash has been read
  read_prefix : (text out rest prefix following : List ℕ) → IsRead shows text out rest → IsUtf8 prefix → HasNoBackslash prefix → rest ≡ prefix ++ following → IsRead shows text (out ++ prefix) following
  read_prefix text out rest prefix following r u h e =
      let i = text_is_items is_any prefix u in
      subst (λ x. IsRead shows text (out ++ x) following) i.1 (read_items text out rest (text_items is_any prefix) following r (shown_items (text_items is_any prefix) i.0) (e ∙ ap (λ x. x ++ following) (sym (unchanged_text is_any prefix u (shown_unchanged prefix u h)))) (text_after prefix following u (subst IsUtf8 e r.text_left)))

  -- and a token after it
  pub read_more : (text out rest prefix following : List ℕ) (item : Item) (after more now : List ℕ) → IsRead shows text out rest → IsCutAtFirst rest prefix following
      → IsItem shows item → backslash ∷ following ≡ item_text item ++ after → more ≡ out ++ prefix → now ≡ more ++ item_bytes item → IsRead shows text now after
  read_more text out rest prefix following item after more now r k i t m n =
      let f = read_prefix text out rest prefix (backslash ∷ following) r (cut_of_text r.text_left refl k).prefix_text k.none_before k.joined in
      let all : backslash ∷ following ≡ item_texts (item ∷ []) ++ after = t ∙ ap (λ x. x ++ after) (sym (append-nil (item_text item))) in
      let g = read_items text (out ++ prefix) (backslash ∷ following) (item ∷ []) after f (i, tt) all (text_after (item_text item) after (item_is_text item i) (subst IsUtf8 t f.text_left)) in
      subst (λ x. IsRead shows text x after) (ap (λ x. (out ++ prefix) ++ x) (append-nil (item_bytes item)) ∙ ap (λ x. x ++ item_bytes item) (sym m) ∙ sym n) g

  -- all has been read
  pub read_all : (text out rest now : List ℕ) → IsRead shows text out rest → HasNoBackslash rest → now ≡ out ++ rest → IsRead shows text now []
  read_all text out rest now r h n = subst (λ x. IsRead shows text x []) (sym n) (read_prefix text out rest rest [] r r.text_left h (sym (append-nil rest)))

  -- no token begins there
  pub read_bad : (text out rest prefix following : List ℕ) → IsRead shows text out rest → IsCutAtFirst rest prefix following → BeginsNoToken shows (backslash ∷ following) → IsBadEscapeBy shows text (length text - length following - 1)
  read_bad text out rest prefix following r k b =
      let f = read_prefix text out rest prefix (backslash ∷ following) r (cut_of_text r.text_left refl k).prefix_text k.none_before k.joined in
      record { items = f.items; are = f.are; rest = backslash ∷ following; joined = f.joined; index = omega (arith, ap length f.joined, length-append (item_texts f.items) (backslash ∷ following)); bad = b }

  -- what has been read whole isn't bad
  pub read_no_bad : (text out : List ℕ) (n : ℕ) → IsRead shows text out [] → ¬ (IsBadEscapeBy shows text n)
  read_no_bad text out n r b =
      let q = same_items shows r.items b.items [] b.rest r.are b.are (inl refl) (inr b.bad) (sym r.joined ∙ b.joined) in
      cc

module _ (form : Form) where
  -- an escape is text
  pub escape_is_text : (well_formed : List ℕ → Type 0) (units : List ℕ → List ℕ) (part_units : List ℕ → Type 0) (parts : PartLaws well_formed units part_units)
      (each : (s : List ℕ) (cs : List Chunk) → well_formed s → AreChunks (before_ending form s) cs → AllByRecursion (IsChunkOf well_formed) cs)
      (s text : List ℕ) → well_formed s → IsEscapeBy form units s text → IsUtf8 text
  escape_is_text well_formed units part_units parts each s text w e =
      subst IsUtf8 (sym e.text_is) (items_are_text (shown_by form) (items_in form units e.chunks s) (escape_is_items form well_formed units part_units parts each s text w e).0)

  -- if the bytes that a text means aren't a string with this escape, the text, which has been read whole, is the escape of no string
  pub no_escape : (well_formed : List ℕ → Type 0) (units : List ℕ → List ℕ) (part_units : List ℕ → Type 0) (parts : PartLaws well_formed units part_units)
      (each : (s : List ℕ) (cs : List Chunk) → well_formed s → AreChunks (before_ending form s) cs → AllByRecursion (IsChunkOf well_formed) cs)
      (text out : List ℕ) → IsRead (shown_by form) text out [] → (well_formed out → IsEscapeBy form units out text → ⊥)
      → ((s : List ℕ) → well_formed s → ¬ (IsEscapeBy form units s text)) × ((n : ℕ) → ¬ (IsBadEscapeBy (shown_by form) text n))
  no_escape well_formed units part_units parts each text out r never = (
    λ s w e.
        let same : s ≡ out = one_reading form well_formed units part_units parts each text r.items s r.are (r.joined ∙ append-nil (item_texts r.items)) w e ∙ sym r.bytes_are in
        never (subst well_formed same w) (subst (λ x. IsEscapeBy form units x text) same e),
    λ n. read_no_bad (shown_by form) text out n r,
  )
