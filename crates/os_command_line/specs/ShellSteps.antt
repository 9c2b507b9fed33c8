-- Parts of words, read or written. Only private contracts name these.
use Rattle.std.specs.Prelude.{nat_eq, ◌≡◌, ℕ, ◌≤◌, nat_lt, Bool, true, false, Result, List, [], ◌∷◌, ◌++◌, length}
use Rattle.os_str_ext.specs.Symbols.{symbols_of}
use Rattle.platform_str.specs.PlatformWords.{itself}
use Rattle.os_command_line.specs.declared.shell.form.Form.{Form}
use Rattle.os_command_line.specs.declared.shell.form.Form.TheVariants.{Bare, Single, Dollar}
use Rattle.os_command_line.specs.declared.shell.language.Language.{Language}
use Rattle.os_command_line.specs.declared.shell.fault.WordsFault.{WordsFault}
use Rattle.std.specs.List.{AllByRecursion}
use Rattle.std.specs.Str.{is_utf8}
use Rattle.os_command_line.specs.Fish.{is_escaped}
use Rattle.os_command_line.specs.Shell.{single_quote, newline, HasNoQuote, Ends}
use Rattle.os_command_line.specs.ShellReader.{is_itself, items_of}
use Rattle.os_command_line.specs.ShellWriting.{is_marked, is_plain_name, single_quoted, dollar_quoted, IsLineText}

-- the name in a form
abbrev pub form_text : Form → List ℕ → List ℕ
form_text Bare name = name
form_text Single name = single_quoted name
form_text Dollar name = dollar_quoted (symbols_of itself name)

-- the form of a name in every POSIX shell
abbrev pub IsFormOf : List ℕ → Form → Type 0
IsFormOf name Bare = is_plain_name name ≡ true
IsFormOf name Single = is_plain_name name ≡ false
IsFormOf name Dollar = ⊥

-- and on one line
abbrev pub IsLineFormOf : List ℕ → Form → Type 0
IsLineFormOf name Bare = IsLineText name × (is_plain_name name ≡ true)
IsLineFormOf name Single = IsLineText name × (is_plain_name name ≡ false)
IsLineFormOf name Dollar = ¬ (IsLineText name)

-- whether a name is written as it is
abbrev pub is_bare_form : Form → Bool
is_bare_form Bare = true
is_bare_form Single = false
is_bare_form Dollar = false

-- a sink accepts what of a name it is given unchanged: all of it, but in dollar-single-quotes
abbrev pub AcceptsForm : (List ℕ → Type 0) → Form → List ℕ → Type 0
AcceptsForm accepts Bare name = accepts name
AcceptsForm accepts Single name = accepts name
AcceptsForm accepts Dollar name = Unit {0}

-- whether the word of a name in a form is text
abbrev pub prints_text : Form → List ℕ → Bool
prints_text Bare name = is_utf8 name
prints_text Single name = is_utf8 name
prints_text Dollar name = true

-- the bytes are cut around their first single quote
pub record IsCutAtQuote (bytes prefix after : List ℕ) : Type 0 where
  pub none_before : HasNoQuote prefix
  pub joined : bytes ≡ prefix ++ single_quote ∷ after

-- bytes that are written as they are in single quotes
abbrev pub AreUnmarked : List ℕ → Type 0
AreUnmarked bytes = AllByRecursion (λ b. is_marked b ≡ false) bytes

-- the bytes are cut around their first single quote or `^`
pub record IsCutAtMarked (bytes prefix : List ℕ) (b : ℕ) (after : List ℕ) : Type 0 where
  pub unmarked_before : AreUnmarked prefix
  pub marked : is_marked b ≡ true
  pub joined : bytes ≡ prefix ++ b ∷ after

-- whether what follows the bytes is first on a line
abbrev pub ends_line : Bool → List ℕ → Bool
ends_line first [] = first
ends_line first (b ∷ bs) = ends_line (nat_eq b newline) bs

-- bytes that no backslash escapes in fish's single quotes
abbrev pub AreShown : List ℕ → Type 0
AreShown bytes = AllByRecursion (λ b. is_escaped b ≡ false) bytes

-- the bytes are cut around their first single quote or backslash
pub record IsCutAtEscaped (bytes prefix : List ℕ) (b : ℕ) (after : List ℕ) : Type 0 where
  pub shown_before : AreShown prefix
  pub escaped : is_escaped b ≡ true
  pub joined : bytes ≡ prefix ++ b ∷ after

-- whether the last byte is one from 80 (hexadecimal) on, if there is one
abbrev pub ends_high : Bool → List ℕ → Bool
ends_high high [] = high
ends_high high (b ∷ bs) = ends_high (nat_lt 0x7F b) bs

-- the rest of a line of `len` bytes has no items
abbrev pub HasNoItem : Language → ℕ → List ℕ → Type 0
HasNoItem l len line = items_of l len line ≡ []

-- its first item is this, and the others are those of what is left
pub record IsNextItem (l : Language) (len : ℕ) (line : List ℕ) (item : Result (List ℕ) WordsFault) (rest : List ℕ) : Type 0 where
  pub items : items_of l len line ≡ item ∷ items_of l len rest
  pub within : length rest ≤ length line

-- bytes that mean themselves outside quotes in each language, first in a word or not
abbrev pub AreItself : Bool → List ℕ → Type 0
AreItself first [] = Unit {0}
AreItself first (b ∷ bs) = (is_itself first b ≡ true) × AreItself false bs

-- the text begins with a word of such bytes, and `rest` comes after it
pub record BeginsBare (text rest : List ℕ) : Type 0 where
  pub raw : List ℕ
  pub joined : text ≡ raw ++ rest
  pub are_itself : AreItself true raw
  pub ends : Ends rest

-- the text begins with these bytes in single quotes, and `rest` comes after them
pub record BeginsQuoted (text quoted rest : List ℕ) : Type 0 where
  pub none : HasNoQuote quoted
  pub joined : text ≡ single_quote ∷ (quoted ++ single_quote ∷ rest)
