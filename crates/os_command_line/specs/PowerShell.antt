-- Names as single-quoted strings of PowerShell (about_Quoting_Rules). Lists are of characters.
use Rattle.std.specs.Prelude.{◌≡◌, ◌≢◌, ℕ, nat_eq, Bool, true, false, ◌||◌, if◌then◌else◌, Option, List, [], ◌∷◌, ◌++◌, length}
use Rattle.std.specs.Int.{is_in_range}
use Rattle.std.specs.List.{AllByRecursion, flat_map}
use Rattle.std.specs.Char.{encode_utf8}
use Rattle.std.specs.Str.{IsUtf8, chars}
use Rattle.wtf8_core.specs.Utf8.{IsUtf8Fault}
use Rattle.os_command_line.specs.declared.shell.powershell.PowerShellError.{PowerShellError}
use Rattle.os_command_line.specs.declared.shell.powershell.PowerShellError.TheVariants as error
use Rattle.os_command_line.specs.declared.shell.powershell.PowerShellQuoted.{PowerShellQuoted}

-- `'`, and the typographic marks U+2018 to U+201B, which PowerShell takes for it
abbrev pub is_single_quote : ℕ → Bool
is_single_quote c = nat_eq c 0x27 || is_in_range 0x2018 0x201B c

-- the first character is no single quotation mark
abbrev pub StartsWithNoQuote : List ℕ → Type 0
StartsWithNoQuote [] = Unit {0}
StartsWithNoQuote (c ∷ cs) = is_single_quote c ≡ false

-- After a single quotation mark the text is read as this string, up to `after`:
-- a mark after which no other comes ends it;
-- of two marks the second belongs to it;
-- any other character means itself.
pub data ReadsString (after : List ℕ) : List ℕ → List ℕ → Type 0 where
  closes : (q : ℕ) → is_single_quote q ≡ true → StartsWithNoQuote after → ReadsString after (q ∷ after) []
  doubled : (p q : ℕ) (text string : List ℕ) → is_single_quote p ≡ true → is_single_quote q ≡ true → ReadsString after text string → ReadsString after (p ∷ q ∷ text) (q ∷ string)
  itself : (c : ℕ) (text string : List ℕ) → is_single_quote c ≡ false → ReadsString after text string → ReadsString after (c ∷ text) (c ∷ string)

-- whatever comes after it but a single quotation mark, the text is a single-quoted string, of these characters
pub record IsStringOf (text string : List ℕ) : Type 0 where
  pub mark : ℕ
  pub inner : List ℕ
  pub begins : text ≡ mark ∷ inner
  pub is_mark : is_single_quote mark ≡ true
  pub reads : (after : List ℕ) → StartsWithNoQuote after → ReadsString after (inner ++ after) string

-- the text, by its bytes, is a string of these characters
pub record IsPowerShellText (text string : List ℕ) : Type 0 where
  pub characters : List ℕ
  pub encoded : text ≡ flat_map encode_utf8 characters
  pub is : IsStringOf characters string

-- a character in a string: a single quotation mark twice
abbrev pub powershell_character : ℕ → List ℕ
powershell_character c = if is_single_quote c then encode_utf8 c ++ encode_utf8 c else encode_utf8 c

-- characters in single quotation marks, by their bytes
abbrev pub powershell_string : List ℕ → List ℕ
powershell_string cs = 0x27 ∷ (flat_map powershell_character cs ++ 0x27 ∷ [])

-- what is printed of a name
abbrev pub powershell_text : PowerShellQuoted → List ℕ
powershell_text q = powershell_string (chars q.text.now)

-- the first index at which the bytes have a NUL
pub record HasNulAt (bytes : List ℕ) (index : ℕ) : Type 0 where
  pub before : List ℕ
  pub after : List ℕ
  pub joined : bytes ≡ before ++ 0 ∷ after
  pub none_before : AllByRecursion (λ b. b ≢ 0) before
  pub index_is : index ≡ length before

-- why a name can't be a string: its first lone surrogate, or else its first NUL
abbrev pub IsPowerShellFault : List ℕ → PowerShellError → Type 0
IsPowerShellFault name (error.LoneSurrogate index) = (error_len : Option ℕ) × IsUtf8Fault name index error_len
IsPowerShellFault name (error.Nul index) = IsUtf8 name × HasNulAt name index

-- what can be one: a text without NUL
abbrev pub IsPowerShellName : List ℕ → Type 0
IsPowerShellName name = IsUtf8 name × AllByRecursion (λ b. b ≢ 0) name
