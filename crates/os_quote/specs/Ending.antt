-- The end of an escape. On one line a space at the end of a string is a token, since editors remove blanks from the ends of lines.
use Rattle.std.specs.Prelude.{ℕ, ◌-◌, nat_eq, Bool, false, if◌then◌else◌, List, [], ◌∷◌, take, length, slice_index}
use Rattle.os_quote.specs.{Item.Item, Item.WideUnit, declared.form.Form.Form, declared.form.Form.TheVariants.Text, declared.form.Form.TheVariants.Line}

-- the code of the space
abbrev pub space : ℕ
space = 0x20

-- the last byte is a space
abbrev pub ends_in_space : List ℕ → Bool
ends_in_space s = nat_eq (slice_index s (length s - 1)) space

-- the last byte is a space that the form writes as a token
abbrev pub has_ending : Form → List ℕ → Bool
has_ending Text s = false
has_ending Line s = ends_in_space s

-- what comes before that space, or the whole string if there is none
abbrev pub before_ending : Form → List ℕ → List ℕ
before_ending form s = if has_ending form s then take (length s - 1) s else s

-- the token of that space, `\u0020`, if there is one
abbrev pub ending : Form → List ℕ → List Item
ending form s = if has_ending form s then WideUnit space ∷ [] else []
