-- The escape as a function, and what `Escaped` writes. `IsEscape` says what an escape is.
use Rattle.std.specs.Prelude.{ℕ, Bool, List, ◌++◌}
use Rattle.platform_str.specs.{declared.platform.Platform.Ghosts, Strings.bytes}
use Rattle.os_str_ext.specs.Chunks.{chunks_of}
use Rattle.os_quote.specs.{Item.item_texts, Shown.shown_by, Ending.before_ending, Ending.ending, Escape.items_of, declared.form.Form.Form, declared.write_display.Escaped.Escaped}

-- the items' texts of the string s, where all the characters that `shows` gives are unchanged
abbrev pub escape_of : (ℕ → Bool) → (List ℕ → List ℕ) → List ℕ → List ℕ
escape_of shows units s = item_texts (items_of shows units (chunks_of s))

-- the one escape of the string s in a form
abbrev pub escape_in : Form → (List ℕ → List ℕ) → List ℕ → List ℕ
escape_in form units s = escape_of (shown_by form) units (before_ending form s) ++ item_texts (ending form s)

module _ {E : Type 0} {P : Ghosts E} where
  -- the text that is written
  abbrev pub escaped_text : Escaped E P → List ℕ
  escaped_text e = escape_in e.form P.units (bytes e.string)
