-- No escape on one line ends in a space.
use Rattle.os_quote.proofs.Common.{◌≡◌, ◌≢◌, ⊎_elim, ℕ, suc, ◌-◌, ◌%◌, ◌<◌, false, List, [], ◌∷◌, ◌++◌, length, get_or, eqb, refl, sym, ap, ◌∙◌, subst, arith, append-nil, length-append, cases_Bool, true≢false, ne_eqb, flat_map-append, length-encode, len_utf8_bounds, form_bounds, AllByRecursion, flat_map, Chunk, AreChunks, PartLaws, upper_hex_digit, Item, Character, Backslash, ByteUnit, WideUnit, LongCharacter, long_digits, item_text, item_texts, IsItem, items_of, items_in, item_bytes, stays_on_line, IsLineEscape, IsChunkOf, before_ending, ending, ends_in_space, space}
use Rattle.os_quote.specs.declared.form.Form.TheVariants.{Line}
use Rattle.os_quote.proofs.lemmas.{Items.digit_low, Items.digit_high, Escapes.escape_is_items, Endings.with_ending}

-- the last of some bytes, 0 if there is none
last : List ℕ → ℕ
last [] = 0
last (b ∷ []) = b
last (b ∷ c ∷ bs) = last (c ∷ bs)

at_last : (bs : List ℕ) → get_or bs (length bs - 1) 0 ≡ last bs
unfolding last
at_last [] = refl
at_last (b ∷ []) = refl
at_last (b ∷ c ∷ bs) =
    let one : suc (length (c ∷ bs) - 1) ≡ length (b ∷ c ∷ bs) - 1 = omega arith in
    subst (λ n. get_or (b ∷ c ∷ bs) n 0 ≡ last (c ∷ bs)) one (at_last (c ∷ bs))

last_after : (a b : List ℕ) → 0 < length b → last (a ++ b) ≡ last b
unfolding last
last_after [] b some = refl
last_after (x ∷ []) [] some = absurd (omega (arith, some))
last_after (x ∷ []) (y ∷ b) some = refl
last_after (x ∷ y ∷ a) b some = last_after (y ∷ a) b some

no_space : (d : ℕ) → d < 16 → upper_hex_digit d ≢ space
no_space d h = grind (arith, digit_low, digit_high, upper_hex_digit)

-- an item whose text ends in a space means bytes that do
item_end : (i : Item) → IsItem stays_on_line i → last (item_text i) ≡ space → last (item_bytes i) ≡ space
unfolding last
item_end (Character c) h e = e
item_end Backslash h e = absurd (omega (arith, e))
item_end (ByteUnit u) h e = absurd (no_space (u % 0x10) (omega arith) e)
item_end (WideUnit u) h e = absurd (no_space (u % 0x100 % 0x10) (omega arith) e)
item_end (LongCharacter c) h e =
    let brace = last_after (0x5C ∷ 0x75 ∷ 0x7B ∷ long_digits c) (0x7D ∷ []) (omega arith) in
    absurd (omega (arith, sym brace ∙ e))

some_text : (i : Item) → IsItem stays_on_line i → (0 < length (item_text i)) × (0 < length (item_bytes i))
some_text (Character c) h = let n = length-encode c in let b = len_utf8_bounds c in (omega (arith, n, b.0), omega (arith, n, b.0))
some_text Backslash h = (omega arith, omega arith)
some_text (ByteUnit u) h = (omega arith, omega arith)
some_text (WideUnit u) h = (omega arith, (form_bounds u).0)
some_text (LongCharacter c) h = let n = length-encode c in let b = len_utf8_bounds c in (omega arith, omega (arith, n, b.0))

items_end : (items : List Item) → AllByRecursion (IsItem stays_on_line) items → last (item_texts items) ≡ space → last (flat_map item_bytes items) ≡ space
items_end [] a e = e
items_end (i ∷ []) a e =
    ap last (append-nil (item_bytes i)) ∙ item_end i a.0 (ap last (sym (append-nil (item_text i))) ∙ e)
items_end (i ∷ j ∷ items) a e =
    let some = some_text j a.1.0 in
    let text = last_after (item_text i) (item_texts (j ∷ items)) (omega (arith, some.0, length-append (item_text j) (item_texts items))) in
    let bytes = last_after (item_bytes i) (flat_map item_bytes (j ∷ items)) (omega (arith, some.1, length-append (item_bytes j) (flat_map item_bytes items))) in
    bytes ∙ items_end (j ∷ items) a.1 (sym text ∙ e)

not_last : (bs : List ℕ) → last bs ≢ space → ends_in_space bs ≡ false
not_last bs n = ne_eqb (get_or bs (length bs - 1) 0) space (λ e. n (sym (at_last bs) ∙ e))

pub escape_ends_so : (well_formed : List ℕ → Type 0) (units : List ℕ → List ℕ) (part_units : List ℕ → Type 0) (parts : PartLaws well_formed units part_units)
    (each : (s : List ℕ) (cs : List Chunk) → well_formed s → AreChunks (before_ending Line s) cs → AllByRecursion (IsChunkOf well_formed) cs)
    (s text : List ℕ) → well_formed s → IsLineEscape units s text → ends_in_space text ≡ false
unfolding last
escape_ends_so well_formed units part_units parts each s text w e =
    let k = escape_is_items Line well_formed units part_units parts each s text w e in
    let items = items_of stays_on_line units e.chunks in
    not_last text (λ l.
    ⊎_elim
    (λ y.
    let whole = flat_map-append item_text items (ending Line s) ∙ ap (λ x. item_texts items ++ item_texts x) (with_ending Line s y).1 in
    let zero : last text ≡ 0x30 = ap last (e.text_is ∙ whole) ∙ last_after (item_texts items) (item_texts (WideUnit space ∷ [])) (omega arith) in
    omega (arith, zero, l))
    (λ n.
    let own = items_end (items_in Line units e.chunks s) k.0 (sym (ap last e.text_is) ∙ l) in
    true≢false (sym (ap (λ b. eqb b space) (at_last s ∙ sym (ap last k.1) ∙ own)) ∙ n))
    (cases_Bool (ends_in_space s)))
