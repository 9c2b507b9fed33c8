-- That an escape on one line stays there.
use Rattle.os_quote.proofs.Common.{◌≡◌, ◌≢◌, ⊎_elim, Bool, ℕ, ◌<◌, true, List, [], ◌∷◌, ◌++◌, map, length, IsTrue, refl, sym, ap, ◌∙◌, subst, arith, append-nil, length-append, encode_utf8, All, AllByRecursion, IsUtf8, chars, cases_lt, cases_eq, cases_Bool, ne_eqb, lt-ltb, le-ltb, All-from_recursion, chars-append, chars-nil, chars_past_char, chars-IsAscii, IsUtf8-encode, length-encode, len_utf8_bounds, Chunk, AreChunks, upper_hex_digit, PartLaws, Item, Character, backslash, item_text, item_texts, IsItem, unit_item, hidden_item, character_item, stays_on_line, IsUnchanged, IsCutAtToken, chunk_items, items_of, items_in, before_ending, ending, ends_in_space, IsLineEscape, IsChunkOf}
use Rattle.os_quote.specs.declared.form.Form.TheVariants.{Line}
use Rattle.os_quote.proofs.lemmas.{Items.digit_low, Items.digit_high, Shown.ascii_stays, Texts.text_after, Escapes.all-append, Escapes.escape_is_items, Readings.ascii_all, Readings.token_ascii, Readings.token_all, Readings.item_is_text}

-- the characters stay on the line
abbrev AllStay : List ℕ → Type 0
AllStay cs = AllByRecursion (λ c. stays_on_line c ≡ true) cs

-- a character that is unchanged does
abbrev Stays : Item → Type 0
Stays (Character c) = stays_on_line c ≡ true
Stays i = Unit {0}

units_stay : (us : List ℕ) → AllByRecursion Stays (map unit_item us)
units_stay [] = tt
units_stay (u ∷ us) = (⊎_elim (λ l. rw (lt-ltb u 0x100 l) tt) (λ l. rw (le-ltb u 0x100 l) tt) (cases_lt u 0x100), units_stay us)

hidden_stays : (c : ℕ) → Stays (hidden_item c)
hidden_stays c = ⊎_elim (λ l. rw (lt-ltb c 0x1_0000 l) tt) (λ l. rw (le-ltb c 0x1_0000 l) tt) (cases_lt c 0x1_0000)

character_stays : (c : ℕ) → Stays (character_item stays_on_line c)
character_stays c =
    ⊎_elim
    (λ (e : c ≡ backslash). let P : ℕ → Type 0 = λ x. Stays (character_item stays_on_line x) in subst P (sym e) tt)
    (λ n. rw (ne_eqb c backslash n) (⊎_elim (λ (y : stays_on_line c ≡ true). rw y y) (λ y. rw y (hidden_stays c)) (cases_Bool (stays_on_line c))))
    (cases_eq c backslash)

characters_stay : (cs : List ℕ) → AllByRecursion Stays (map (character_item stays_on_line) cs)
characters_stay [] = tt
characters_stay (c ∷ cs) = (character_stays c, characters_stay cs)

chunks_stay : (units : List ℕ → List ℕ) (cs : List Chunk) → AllByRecursion Stays (items_of stays_on_line units cs)
chunks_stay units [] = tt
chunks_stay units (c ∷ cs) =
    all-append Stays (chunk_items stays_on_line units c) (items_of stays_on_line units cs) (all-append Stays (map unit_item (units c.0)) (map (character_item stays_on_line) (chars c.1)) (units_stay (units c.0)) (characters_stay (chars c.1))) (chunks_stay units cs)

-- a digit stays
digit_stays : (d : ℕ) → d < 16 → stays_on_line (upper_hex_digit d) ≡ true
digit_stays d h = grind (arith, digit_low, ascii_stays, upper_hex_digit, digit_high)

-- the characters of an item
ascii_item : (bs : List ℕ) → AllByRecursion (λ b. b < 128) bs → AllStay bs → AllStay (chars bs)
ascii_item bs a s = subst AllStay (sym (chars-IsAscii bs (ascii_all bs a))) s

item_stays : (i : Item) → IsItem stays_on_line i → Stays i → AllStay (chars (item_text i))
item_stays (Character c) h s =
    subst AllStay (sym (chars_past_char (encode_utf8 c) [] c (IsUtf8-encode c h.0) (sym (append-nil (encode_utf8 c))) ∙ ap (λ x. c ∷ x) chars-nil)) (s, tt)
item_stays i h s = ascii_item (item_text i) (token_ascii stays_on_line i h tt) (token_all (λ c. stays_on_line c ≡ true) digit_stays (refl, (refl, (refl, (refl, (refl, tt))))) stays_on_line i h tt)

texts_stay : (items : List Item) → AllByRecursion (IsItem stays_on_line) items → AllByRecursion Stays items → AllStay (chars (item_texts items))
texts_stay [] a s = subst AllStay (sym chars-nil) tt
texts_stay (i ∷ items) a s =
    subst AllStay (sym (chars-append (item_text i) (item_texts items) (item_is_text stays_on_line i a.0))) (all-append (λ c. stays_on_line c ≡ true) (chars (item_text i)) (chars (item_texts items)) (item_stays i a.0 s.0) (texts_stay items a.1 s.1))

ending_stays : (s : List ℕ) → AllByRecursion Stays (ending Line s)
ending_stays s = ⊎_elim (λ y. rw y (tt, tt)) (λ n. rw n tt) (cases_Bool (ends_in_space s))

-- an escape's characters
pub escape_is_on_line : (well_formed : List ℕ → Type 0) (units : List ℕ → List ℕ) (part_units : List ℕ → Type 0) (parts : PartLaws well_formed units part_units)
    (each : (s : List ℕ) (cs : List Chunk) → well_formed s → AreChunks (before_ending Line s) cs → AllByRecursion (IsChunkOf well_formed) cs)
    (s text : List ℕ) → well_formed s → IsLineEscape units s text → All (λ c. IsTrue (stays_on_line c)) (chars text)
escape_is_on_line well_formed units part_units parts each s text w e =
    let items = items_in Line units e.chunks s in
    let k = escape_is_items Line well_formed units part_units parts each s text w e in
    All-from_recursion (λ c. stays_on_line c ≡ true) (chars text) (subst (λ x. AllStay (chars x)) (sym e.text_is) (texts_stay items k.0 (all-append Stays (items_of stays_on_line units e.chunks) (ending Line s) (chunks_stay units e.chunks) (ending_stays s))))

pub cut_is_shorter : (shows : ℕ → Bool) (t prefix : List ℕ) (c : ℕ) (following : List ℕ) → IsCutAtToken shows t prefix c following → length following < length t
cut_is_shorter shows t prefix c following k =
    omega (arith, ap length k.joined, length-append prefix (encode_utf8 c ++ following), length-append (encode_utf8 c) following, length-encode c, (len_utf8_bounds c).0)

-- ---- whether a text stays on the line

pub all_shown : (cs : List ℕ) → AllByRecursion (IsUnchanged stays_on_line) cs → AllStay cs
all_shown [] a = tt
all_shown (c ∷ cs) a = (a.0.1, all_shown cs a.1)

all_after : (xs : List ℕ) (c : ℕ) (ys : List ℕ) → AllStay (xs ++ c ∷ ys) → (stays_on_line c ≡ true) × AllStay ys
all_after [] c ys a = a
all_after (x ∷ xs) c ys a = all_after xs c ys a.1

module _ (t prefix : List ℕ) (c : ℕ) (following : List ℕ) (u : IsUtf8 t) (k : IsCutAtToken stays_on_line t prefix c following) where
  characters : chars t ≡ chars prefix ++ c ∷ chars following
  characters =
      let rest = encode_utf8 c ++ following in
      let text = text_after prefix rest k.prefix_text (subst IsUtf8 k.joined u) in
      ap chars k.joined ∙ chars-append prefix rest k.prefix_text ∙ ap (λ x. chars prefix ++ x) (chars_past_char rest following c text refl)

  -- up to a character that doesn't
  pub hidden_leaves : c ≢ backslash → AllStay (chars t) → ⊥
  hidden_leaves n a = k.hidden (n, (all_after (chars prefix) c (chars following) (subst AllStay characters a)).0)

  -- and past a backslash
  pub past_backslash : AllStay (chars t) → AllStay (chars following)
  past_backslash a = (all_after (chars prefix) c (chars following) (subst AllStay characters a)).1

  pub with_backslash : c ≡ backslash → AllStay (chars following) → AllStay (chars t)
  with_backslash e a = subst AllStay (sym characters) (all-append (λ x. stays_on_line x ≡ true) (chars prefix) (c ∷ chars following) (all_shown (chars prefix) k.unchanged) (subst (λ x. stays_on_line x ≡ true) (sym e) refl, a))
