-- The characters that an escape shows unchanged. Its two forms differ in these, and in a space at the end.
use Rattle.std.specs.Prelude.{◌≡◌, ℕ, not, Bool, true, List}
use Rattle.std.specs.{List.AllByRecursion, Str.chars}
use Rattle.os_quote.specs.{HiddenCharacters.hidden_ranges, HiddenCharacters.is_in_ranges, declared.form.Form.Form, declared.form.Form.TheVariants.Text, declared.form.Form.TheVariants.Line}

-- every character
abbrev pub is_any : ℕ → Bool
is_any c = true

-- a character that is shown, and can't alone end a line, move the cursor or override the direction of text
abbrev pub stays_on_line : ℕ → Bool
stays_on_line c = not (is_in_ranges hidden_ranges c)

-- each character of the text is one that stays on the line
abbrev pub IsOnOneLine : List ℕ → Type 0
IsOnOneLine text = AllByRecursion (λ c. stays_on_line c ≡ true) (chars text)

-- the characters that a form shows unchanged
abbrev pub shown_by : Form → ℕ → Bool
shown_by Text = is_any
shown_by Line = stays_on_line
