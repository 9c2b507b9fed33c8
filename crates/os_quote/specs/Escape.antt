-- The escape of a string, and the faults of texts that aren't escapes (this project's own format).
use Rattle.std.specs.Prelude.{◌≡◌, ◌≢◌, ℕ, Bool, List, ◌∷◌, ◌++◌, map, length}
use Rattle.std.specs.{List.flat_map, List.AllByRecursion, Str.chars}
use Rattle.wtf8_core.specs.Chunks.{Chunk, AreChunks}
use Rattle.os_quote.specs.{Item.Item, Item.backslash, Item.item_text, Item.item_texts, Item.IsItem, Item.unit_item, Item.character_item, Shown.is_any, Shown.stays_on_line, Shown.shown_by, Ending.before_ending, Ending.ending, declared.form.Form.Form, declared.form.Form.TheVariants.Text, declared.form.Form.TheVariants.Line, declared.error.QuoteError.QuoteError, declared.error.QuoteError.TheVariants.BadEscape, declared.error.QuoteError.TheVariants.NotCanonical, declared.error.QuoteError.TheVariants.Memory}

-- the items of a chunk: one for each unit of its part, then one for each character of its text
abbrev pub chunk_items : (ℕ → Bool) → (List ℕ → List ℕ) → Chunk → List Item
chunk_items shows units c = map unit_item (units c.0) ++ map (character_item shows) (chars c.1)

-- the items of all chunks
abbrev pub items_of : (ℕ → Bool) → (List ℕ → List ℕ) → List Chunk → List Item
items_of shows units chunks = flat_map (chunk_items shows units) chunks

-- the items of a string in a form: those of the chunks, and on one line the token of a space at the end
abbrev pub items_in : Form → (List ℕ → List ℕ) → List Chunk → List ℕ → List Item
items_in form units chunks s = items_of (shown_by form) units chunks ++ ending form s

-- text is the escape of the string s in the form; the platform defines the units of bytes
pub record IsEscapeBy (form : Form) (units : List ℕ → List ℕ) (s text : List ℕ) : Type 0 where
  pub chunks : List Chunk
  pub are_chunks : AreChunks (before_ending form s) chunks
  pub text_is : text ≡ item_texts (items_in form units chunks s)

-- the escape in which every character but the backslash is unchanged
abbrev pub IsEscape : (List ℕ → List ℕ) → List ℕ → List ℕ → Type 0
IsEscape = IsEscapeBy Text

-- the escape on one line, in which hidden characters and a space at the end are tokens
abbrev pub IsLineEscape : (List ℕ → List ℕ) → List ℕ → List ℕ → Type 0
IsLineEscape = IsEscapeBy Line

-- rest begins with a backslash that begins no token of the form
pub record BeginsNoToken (shows : ℕ → Bool) (rest : List ℕ) : Type 0 where
  pub following : List ℕ
  pub first : rest ≡ backslash ∷ following
  pub none : (item : Item) → IsItem shows item → (after : List ℕ) → rest ≢ item_text item ++ after

-- the text begins with items of n bytes, and after them comes a backslash that begins no token of the form
pub record IsBadEscapeBy (shows : ℕ → Bool) (text : List ℕ) (n : ℕ) : Type 0 where
  pub items : List Item
  pub are : AllByRecursion (IsItem shows) items
  pub rest : List ℕ
  pub joined : text ≡ item_texts items ++ rest
  pub index : n ≡ length (item_texts items)
  pub bad : BeginsNoToken shows rest

-- where a backslash begins no token, in each form
abbrev pub IsBadEscape : List ℕ → ℕ → Type 0
IsBadEscape = IsBadEscapeBy is_any

abbrev pub IsBadLineEscape : List ℕ → ℕ → Type 0
IsBadLineEscape = IsBadEscapeBy stays_on_line

-- why text isn't the escape of a string of the platform: a backslash in it begins no token, or else it isn't the escape of any string; or an allocation failed
abbrev pub IsQuoteFaultBy : Form → (List ℕ → Type 0) → (List ℕ → List ℕ) → List ℕ → QuoteError → Type 0
IsQuoteFaultBy form well_formed units text (BadEscape n) = IsBadEscapeBy (shown_by form) text n
IsQuoteFaultBy form well_formed units text NotCanonical =
    ((s : List ℕ) → well_formed s → ¬ (IsEscapeBy form units s text)) × ((n : ℕ) → ¬ (IsBadEscapeBy (shown_by form) text n))
IsQuoteFaultBy form well_formed units text Memory = Unit {0}

-- why text isn't the escape of a string of the platform, in each form
abbrev pub IsQuoteFault : (List ℕ → Type 0) → (List ℕ → List ℕ) → List ℕ → QuoteError → Type 0
IsQuoteFault = IsQuoteFaultBy Text

abbrev pub IsLineFault : (List ℕ → Type 0) → (List ℕ → List ℕ) → List ℕ → QuoteError → Type 0
IsLineFault = IsQuoteFaultBy Line
