-- How long the text of an item is, beside the bytes that it means.
use Rattle.os_quote.proofs.Common.{ℕ, ◌*◌, ◌<◌, ◌≤◌, Bool, List, [], ◌∷◌, length, ap, arith, length-append, encode_utf8, AllByRecursion, flat_map, length-encode, len_utf8_bounds, form_encode, form_bounds, form_past, Item, Character, Backslash, ByteUnit, WideUnit, LongCharacter, long_digits, item_text, item_texts, IsItem, Chunk, AreChunks, PartLaws, IsChunkOf, IsEscapeBy, items_in, before_ending, shown_by, item_bytes}
use Rattle.os_quote.specs.declared.form.Form.{Form}
use Rattle.os_quote.proofs.lemmas.{Escapes.escape_is_items, Items.five_digits, Items.six_digits}

-- a text of at most ten bytes, six for each that it means, and none for no byte
pub record IsShort (text decoded : List ℕ) : Type 0 where
  pub ten : length text ≤ 10
  pub six : length text ≤ 6 * length decoded
  pub some : length decoded ≤ length text

encoded_length : (c : ℕ) → (0 < length (encode_utf8 c)) × (length (encode_utf8 c) ≤ 4)
encoded_length c = let n = length-encode c in let b = len_utf8_bounds c in (omega (arith, n, b.0), omega (arith, n, b.1))

pub digits_length : (c : ℕ) → (5 ≤ length (long_digits c)) × (length (long_digits c) ≤ 6)
digits_length c = grind (arith, five_digits, six_digits)

module _ (shows : ℕ → Bool) where
  pub item_is_short : (i : Item) → IsItem shows i → IsShort (item_text i) (item_bytes i)
  item_is_short (Character c) h = let e = encoded_length c in record { ten = omega (arith, e.1); six = omega (arith, e.0); some = omega arith }
  item_is_short Backslash h = record { ten = omega arith; six = omega arith; some = omega arith }
  item_is_short (ByteUnit u) h = record { ten = omega arith; six = omega arith; some = omega arith }
  item_is_short (WideUnit u) h = let b = form_bounds u in record { ten = omega arith; six = omega (arith, b.0); some = omega (arith, b.1) }
  item_is_short (LongCharacter c) h =
      let d = digits_length c in
      let e = encoded_length c in
      let four = ap length (form_past c h.1.0) in
      let same = ap length (form_encode c) in
      let n = length-append (long_digits c) (0x7D ∷ []) in
      record { ten = omega (arith, d.1, n); six = omega (arith, d.1, n, four, same); some = omega (arith, d.0, n, e.1) }

  -- the texts of items have at most six bytes for each that they mean, and at least as many
  pub items_are_short : (items : List Item) → AllByRecursion (IsItem shows) items → (length (item_texts items) ≤ 6 * length (flat_map item_bytes items)) × (length (flat_map item_bytes items) ≤ length (item_texts items))
  items_are_short [] a = (omega arith, omega arith)
  items_are_short (i ∷ items) a =
      let first = item_is_short i a.0 in
      let rest = items_are_short items a.1 in
      let t = length-append (item_text i) (item_texts items) in
      let b = length-append (item_bytes i) (flat_map item_bytes items) in
      (omega (arith, first.six, rest.0, t, b), omega (arith, first.some, rest.1, t, b))

-- an escape has at most six bytes for each of the string
pub escape_is_short : (form : Form) (well_formed : List ℕ → Type 0) (units : List ℕ → List ℕ) (part_units : List ℕ → Type 0) (parts : PartLaws well_formed units part_units)
    (each : (s : List ℕ) (cs : List Chunk) → well_formed s → AreChunks (before_ending form s) cs → AllByRecursion (IsChunkOf well_formed) cs)
    (s text : List ℕ) → well_formed s → IsEscapeBy form units s text → length text ≤ 6 * length s
escape_is_short form well_formed units part_units parts each s text w e =
    let items = items_in form units e.chunks s in
    let k = escape_is_items form well_formed units part_units parts each s text w e in
    let l : length (item_texts items) ≤ 6 * length (flat_map item_bytes items) = (items_are_short (shown_by form) items k.0).0 in
    omega (arith, l, ap length k.1, ap length e.text_is)
