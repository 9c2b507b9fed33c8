-- Words quoted for a shell (POSIX.1-2024, Shell Command Language, 2.2.2 and 2.2.4), and names that can't be. Lists are of bytes.
use Rattle.std.specs.Prelude.{◌≡◌, ◌≢◌, ℕ, ◌+◌, ◌/◌, ◌%◌, ◌<◌, nat_eq, nat_lt, Bool, true, false, not, ◌||◌, ◌&&◌, if◌then◌else◌, Option, None, Some, List, [], ◌∷◌, ◌++◌, length}
use Rattle.std.specs.Char.{encode_utf8}
use Rattle.std.specs.Int.{is_in_range}
use Rattle.std.specs.List.{AllByRecursion, flat_map}
use Rattle.std.specs.Str.{IsUtf8}
use Rattle.os_quote.specs.Shown.{stays_on_line, IsOnOneLine}
use Rattle.os_str_ext.specs.Parts.{unit_number}
use Rattle.os_str_ext.specs.Symbols.{AreSymbols}
use Rattle.os_str_ext.specs.declared.symbols.Symbol.{Symbol}
use Rattle.os_str_ext.specs.declared.symbols.Symbol.TheVariants as symbol
use Rattle.platform_str.specs.PlatformWords.{itself}
use Rattle.os_command_line.specs.declared.shell.error.ShellError.{ShellError}
use Rattle.os_command_line.specs.declared.shell.error.ShellError.TheVariants as error
use Rattle.os_command_line.specs.Shell.{single_quote, backslash, dollar, newline}

-- each number is that of a byte
abbrev pub AreBytes : List ℕ → Type 0
AreBytes name = AllByRecursion (λ b. b < 0x100) name

-- a byte that no shell gives a meaning of its own wherever it is: A-Z a-z 0-9 _ @ + : , . / -
abbrev pub is_plain : ℕ → Bool
is_plain b = is_in_range 0x2B 0x3A b || (is_in_range 0x40 0x5A b || (nat_eq b 0x5F || is_in_range 0x61 0x7A b))

-- whether each byte is one
abbrev pub are_plain : List ℕ → Bool
are_plain [] = true
are_plain (b ∷ bs) = is_plain b && are_plain bs

-- whether the name needs no quotes: it isn't empty and has only such bytes
abbrev pub is_plain_name : List ℕ → Bool
is_plain_name [] = false
is_plain_name (b ∷ bs) = are_plain (b ∷ bs)

-- the code of `^`
abbrev pub caret : ℕ
caret = 0x5E

-- a byte that isn't written as it is in single quotes, or not everywhere: a single quote or `^`
abbrev pub is_marked : ℕ → Bool
is_marked b = nat_eq b single_quote || nat_eq b caret

-- What means a byte in single quotes, first on a line or not. A single quote can't be in them: they end before it, and begin again after it.
-- Where a history is kept, bash takes a `^` that is first on a line as a quick substitution, in quotes too: the quotes end before it, and begin again.
abbrev pub single_byte : Bool → ℕ → List ℕ
single_byte first b =
    if nat_eq b single_quote then single_quote ∷ backslash ∷ single_quote ∷ single_quote ∷ []
    else (if first && nat_eq b caret then single_quote ∷ single_quote ∷ b ∷ [] else b ∷ [])

-- what means bytes there, the first of them first on a line or not
abbrev pub single_text : Bool → List ℕ → List ℕ
single_text first [] = []
single_text first (b ∷ bs) = single_byte first b ++ single_text (nat_eq b newline) bs

-- the name in single quotes
abbrev pub single_quoted : List ℕ → List ℕ
single_quoted name = single_quote ∷ (single_text false name ++ single_quote ∷ [])

-- the word of a name in every POSIX shell
abbrev pub quoted_word : List ℕ → List ℕ
quoted_word name = if is_plain_name name then name else single_quoted name

-- the letter that means a character after a backslash in dollar-single-quotes: ' \ n t r
abbrev pub letter_for : ℕ → Option ℕ
letter_for c =
    if nat_eq c single_quote then Some single_quote
    else (if nat_eq c backslash then Some backslash
    else (if nat_eq c 0x0A then Some 0x6E
    else (if nat_eq c 0x09 then Some 0x74
    else (if nat_eq c 0x0D then Some 0x72 else None))))

-- a backslash and the three octal digits of a byte
abbrev pub octal_text : ℕ → List ℕ
octal_text b = backslash ∷ (0x30 + b / 64 % 8) ∷ (0x30 + b / 8 % 8) ∷ (0x30 + b % 8) ∷ []

-- what means a character in dollar-single-quotes and stays on the line
abbrev pub shown_or_octal : ℕ → List ℕ
shown_or_octal c = if stays_on_line c then encode_utf8 c else flat_map octal_text (encode_utf8 c)

abbrev pub character_text : ℕ → Option ℕ → List ℕ
character_text c (Some letter) = backslash ∷ letter ∷ []
character_text c None = shown_or_octal c

-- what means a symbol there: a character, or a byte of invalid UTF-8
abbrev pub symbol_text : Symbol → List ℕ
symbol_text (symbol.Character c) = character_text c (letter_for c)
symbol_text (symbol.Unit u) = octal_text (unit_number u)

-- whether a backslash begins what means a symbol there
abbrev pub is_escape : Symbol → Bool
is_escape (symbol.Character c) = nat_eq c single_quote || (nat_eq c backslash || not (stays_on_line c))
is_escape (symbol.Unit u) = true

-- whether a byte from 80 (hexadecimal) on ends what means a symbol there
abbrev pub is_high : Symbol → Bool
is_high (symbol.Character c) = nat_lt 0x7F c && stays_on_line c
is_high (symbol.Unit u) = false

-- What means a symbol there, after a byte from 80 on or not. No backslash comes after such a byte, which may be one character with it: the quotes end before the backslash, and begin again.
abbrev pub text_after : Bool → Symbol → List ℕ
text_after high s =
    if high && is_escape s then single_quote ∷ dollar ∷ single_quote ∷ symbol_text s else symbol_text s

-- what means symbols there, after a byte from 80 on or not
abbrev pub dollar_text : Bool → List Symbol → List ℕ
dollar_text high [] = []
dollar_text high (s ∷ symbols) = text_after high s ++ dollar_text (is_high s) symbols

-- symbols in dollar-single-quotes
abbrev pub dollar_quoted : List Symbol → List ℕ
dollar_quoted symbols = dollar ∷ single_quote ∷ (dollar_text false symbols ++ single_quote ∷ [])

-- the text is the name in dollar-single-quotes
pub record IsDollarWord (name text : List ℕ) : Type 0 where
  pub symbols : List Symbol
  pub are_symbols : AreSymbols itself name symbols
  pub text_is : text ≡ dollar_quoted symbols

-- the name is valid UTF-8, and each of its characters stays on the line
abbrev pub IsLineText : List ℕ → Type 0
IsLineText name = IsUtf8 name × IsOnOneLine name

-- the word of a name on one line: the same as in every POSIX shell where the name stays on the line, else in dollar-single-quotes
pub record IsLineWord (name text : List ℕ) : Type 0 where
  pub shown : IsLineText name → text ≡ quoted_word name
  pub hidden : ¬ (IsLineText name) → IsDollarWord name text

-- the word of a name as a text: the same as in every POSIX shell where the name is a text, else in dollar-single-quotes
pub record IsTextWord (name text : List ℕ) : Type 0 where
  pub shown : IsUtf8 name → text ≡ quoted_word name
  pub hidden : ¬ (IsUtf8 name) → IsDollarWord name text

-- the name has no NUL
abbrev pub HasNoNul : List ℕ → Type 0
HasNoNul name = AllByRecursion (λ b. b ≢ 0) name

-- the first index at which the name has a NUL
pub record IsFirstNul (name : List ℕ) (index : ℕ) : Type 0 where
  pub before : List ℕ
  pub after : List ℕ
  pub joined : name ≡ before ++ 0 ∷ after
  pub none_before : HasNoNul before
  pub index_is : index ≡ length before

-- why a name can't be a word: a NUL, at its first index; or an allocation failed
abbrev pub IsNameFault : List ℕ → ShellError → Type 0
IsNameFault name (error.Nul index) = IsFirstNul name index
IsNameFault name error.Memory = Unit {0}

-- the fault of the first name that has one
pub record IsFirstNameFault (names : List (List ℕ)) (fault : ShellError) : Type 0 where
  pub before : List (List ℕ)
  pub name : List ℕ
  pub after : List (List ℕ)
  pub joined : names ≡ before ++ name ∷ after
  pub none_before : AllByRecursion HasNoNul before
  pub is : IsNameFault name fault

-- words after another on a line, a space before each
abbrev pub after_first : List (List ℕ) → List ℕ
after_first [] = []
after_first (word ∷ words) = 0x20 ∷ (word ++ after_first words)

-- words on a line, a space between them
abbrev pub join_words : List (List ℕ) → List ℕ
join_words [] = []
join_words (word ∷ words) = word ++ after_first words
