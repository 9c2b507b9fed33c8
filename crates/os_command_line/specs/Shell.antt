-- How `sh` reads words and removes their quotes (POSIX.1-2024, Shell Command Language, 2.2 and 2.3), where nothing is expanded. Lists are of bytes.
use Rattle.std.specs.Prelude.{◌≡◌, ◌≢◌, ◌⊎◌, ℕ, ◌+◌, ◌*◌, ◌-◌, nat_eq, nat_lt, Bool, true, false, ◌||◌, ◌&&◌, if◌then◌else◌, Option, None, Some, Result, Ok, Err, List, [], ◌∷◌, ◌++◌, length, map}
use Rattle.std.specs.Int.{is_in_range}
use Rattle.std.specs.List.{AllByRecursion}
use Rattle.os_command_line.specs.declared.shell.language.Language.{Language}
use Rattle.os_command_line.specs.declared.shell.fault.FaultKind.{FaultKind}
use Rattle.os_command_line.specs.declared.shell.fault.FaultKind.TheVariants.{UnclosedSingle, UnclosedDouble, UnclosedDollar, TrailingBackslash, Special, UnknownEscape}
use Rattle.os_command_line.specs.declared.shell.fault.WordsFault.{WordsFault}

-- `'`, `"`, `\`, `$` and newline
abbrev pub single_quote : ℕ
single_quote = 0x27

abbrev pub double_quote : ℕ
double_quote = 0x22

abbrev pub backslash : ℕ
backslash = 0x5C

abbrev pub dollar : ℕ
dollar = 0x24

abbrev pub newline : ℕ
newline = 0x0A

-- a quote or a backslash
abbrev pub is_mark : ℕ → Bool
is_mark b = nat_eq b single_quote || (nat_eq b double_quote || nat_eq b backslash)

-- a space, a tab or a newline, between words (2.3)
abbrev pub is_blank : ℕ → Bool
is_blank b = nat_eq b 0x20 || (nat_eq b 0x09 || nat_eq b newline)

-- the operators | & ; < > ( )
abbrev pub is_operator : ℕ → Bool
is_operator b = nat_eq b 0x7C || (nat_eq b 0x26 || (nat_eq b 0x3B || (nat_eq b 0x3C || (nat_eq b 0x3E || (nat_eq b 0x28 || nat_eq b 0x29)))))

-- $ and a grave accent, by which expansions begin also in double quotes (2.2.3)
abbrev pub is_expansion : ℕ → Bool
is_expansion b = nat_eq b dollar || nat_eq b 0x60

-- what is or begins an expansion or a pattern in some shell: these, and * ? [ { } ~
abbrev pub is_pattern : ℕ → Bool
is_pattern b = is_expansion b || (nat_eq b 0x2A || (nat_eq b 0x3F || (nat_eq b 0x5B || (nat_eq b 0x7B || (nat_eq b 0x7D || nat_eq b 0x7E)))))

-- !, by which an interactive bash or zsh takes text of its history, also in double quotes
abbrev pub is_history : ℕ → Bool
is_history b = nat_eq b 0x21

-- what some shell gives a meaning of its own in double quotes
abbrev pub is_special_doubled : ℕ → Bool
is_special_doubled b = is_expansion b || is_history b

-- A byte to which some shell gives a meaning of its own outside quotes; # = and ^ are such bytes where they are first in a word.
-- A carriage return is a blank to fish, and ends a line that is typed.
abbrev pub is_special : Bool → ℕ → Bool
is_special first b = is_operator b || (is_pattern b || (is_history b || (nat_eq b 0x0D || (first && (nat_eq b 0x23 || (nat_eq b 0x3D || nat_eq b 0x5E))))))

-- what a backslash escapes in double quotes: $ ` " \
abbrev pub is_escapable : ℕ → Bool
is_escapable b = is_expansion b || (nat_eq b double_quote || nat_eq b backslash)

-- the text begins with a single quote; a backslash and a newline before it are left out first (2.2.1)
abbrev pub begins_quote : List ℕ → Bool
begins_quote [] = false
begins_quote (b ∷ []) = nat_eq b single_quote
begins_quote (b ∷ c ∷ text) = nat_eq b single_quote || (nat_eq b backslash && (nat_eq c newline && begins_quote text))

-- whether dollar-single-quotes begin with this byte before this text, in a language that has them
abbrev pub opens_dollar : Language → ℕ → List ℕ → Bool
opens_dollar l b text = l.dollar_quotes && (nat_eq b dollar && begins_quote text)

-- what begins dollar-single-quotes after the `$`: a single quote, and before it a backslash and a newline any number of times
pub data IsOpening : List ℕ → Type 0 where
  quote : IsOpening (single_quote ∷ [])
  line_joined : (opening : List ℕ) → IsOpening opening → IsOpening (backslash ∷ newline ∷ opening)

-- a byte that means itself outside quotes, before this text, where it is first in a word or not
pub record IsBare (l : Language) (first : Bool) (b : ℕ) (text : List ℕ) : Type 0 where
  pub no_mark : is_mark b ≡ false
  pub no_blank : is_blank b ≡ false
  pub no_dollar : opens_dollar l b text ≡ false
  pub no_special : l.refuses_specials && is_special first b ≡ false

-- no single quote is there
abbrev pub HasNoQuote : List ℕ → Type 0
HasNoQuote bytes = AllByRecursion (λ b. nat_eq b single_quote ≡ false) bytes

-- a byte that means itself in double quotes
pub record IsItselfDoubled (l : Language) (b : ℕ) : Type 0 where
  pub no_quote : nat_eq b double_quote ≡ false
  pub no_backslash : nat_eq b backslash ≡ false
  pub no_special : l.refuses_specials && is_special_doubled b ≡ false

-- In double quotes (2.2.3) a byte means itself; a backslash before $ ` " or \ escapes it; a backslash and a newline are left out; before any other byte a backslash means itself.
pub data Doubled (l : Language) : List ℕ → List ℕ → Type 0 where
  none : Doubled l [] []
  plain : (b : ℕ) (text word : List ℕ) → IsItselfDoubled l b → Doubled l text word → Doubled l (b ∷ text) (b ∷ word)
  escape : (b : ℕ) (text word : List ℕ) → is_escapable b ≡ true → Doubled l text word → Doubled l (backslash ∷ b ∷ text) (b ∷ word)
  joined : (text word : List ℕ) → Doubled l text word → Doubled l (backslash ∷ newline ∷ text) word
  kept : (b : ℕ) (text word : List ℕ) → is_escapable b ≡ false → nat_eq b newline ≡ false → Doubled l (b ∷ text) word → Doubled l (backslash ∷ b ∷ text) (backslash ∷ word)

-- an octal digit, and whether a number is that of a byte other than NUL
abbrev pub is_octal : ℕ → Bool
is_octal c = is_in_range 0x30 0x37 c

abbrev pub is_some_byte : ℕ → Bool
is_some_byte n = nat_lt 0 n && nat_lt n 0x100

abbrev pub octal_value : ℕ → ℕ → ℕ → ℕ
octal_value c d e = (c - 0x30) * 64 + (d - 0x30) * 8 + (e - 0x30)

-- what a letter means after a backslash in dollar-single-quotes (2.2.4): " ' \ a b f n r t v
abbrev pub letter_meaning : ℕ → Option ℕ
letter_meaning c =
    if is_mark c then Some c
    else (if nat_eq c 0x61 then Some 0x07
    else (if nat_eq c 0x62 then Some 0x08
    else (if nat_eq c 0x66 then Some 0x0C
    else (if nat_eq c 0x6E then Some 0x0A
    else (if nat_eq c 0x72 then Some 0x0D
    else (if nat_eq c 0x74 then Some 0x09
    else (if nat_eq c 0x76 then Some 0x0B else None)))))))

-- what three octal digits mean there: a byte other than NUL
abbrev pub octal_meaning : ℕ → ℕ → ℕ → Option ℕ
octal_meaning c d e =
    if is_octal c && (is_octal d && (is_octal e && is_some_byte (octal_value c d e))) then Some (octal_value c d e) else None

-- the byte that letters mean after a backslash in dollar-single-quotes: the escapes that every shell with such quotes has
abbrev pub escape_meaning : List ℕ → Option ℕ
escape_meaning [] = None
escape_meaning (c ∷ []) = letter_meaning c
escape_meaning (c ∷ d ∷ []) = None
escape_meaning (c ∷ d ∷ e ∷ []) = octal_meaning c d e
escape_meaning (c ∷ d ∷ e ∷ f ∷ more) = None

-- the text, which comes after a backslash, begins with no escape
pub record BeginsNoEscape (text : List ℕ) : Type 0 where
  pub some : text ≢ []
  pub none : (letters after : List ℕ) → text ≡ letters ++ after → escape_meaning letters ≡ None

-- In dollar-single-quotes (2.2.4) a byte but a single quote and a backslash means itself; a backslash begins an escape.
pub data Dollared : List ℕ → List ℕ → Type 0 where
  nothing : Dollared [] []
  itself : (b : ℕ) (text word : List ℕ) → nat_eq b single_quote ≡ false → nat_eq b backslash ≡ false → Dollared text word → Dollared (b ∷ text) (b ∷ word)
  escape_of : (letters : List ℕ) (b : ℕ) (text word : List ℕ) → escape_meaning letters ≡ Some b → Dollared text word → Dollared (backslash ∷ (letters ++ text)) (b ∷ word)

-- a word and what comes after it, or a fault and the text from it on
pub data Outcome : Type 0 where
  Word : List ℕ → List ℕ → Outcome
  Fault : FaultKind → List ℕ → Outcome

-- the same with these bytes first in the word
abbrev pub prepend : List ℕ → Outcome → Outcome
prepend prefix (Word word after) = Word (prefix ++ word) after
prepend prefix (Fault kind left) = Fault kind left

-- a word ends before this: at the end, or before a blank
abbrev pub Ends : List ℕ → Type 0
Ends [] = Unit {0}
Ends (b ∷ bs) = is_blank b ≡ true

-- From here, first in a word or not, the text is read so, as a word or the rest of one.
pub data Reads (l : Language) : Bool → List ℕ → Outcome → Type 0 where
  ends : (first : Bool) (after : List ℕ) → Ends after → Reads l first after (Word [] after)
  bare : (first : Bool) (b : ℕ) (text : List ℕ) (o : Outcome) → IsBare l first b text → Reads l false text o → Reads l first (b ∷ text) (prepend (b ∷ []) o)
  escaped : (first : Bool) (b : ℕ) (text : List ℕ) (o : Outcome) → nat_eq b newline ≡ false → Reads l false text o → Reads l first (backslash ∷ b ∷ text) (prepend (b ∷ []) o)
  continued : (first : Bool) (text : List ℕ) (o : Outcome) → Reads l first text o → Reads l first (backslash ∷ newline ∷ text) o
  single : (first : Bool) (quoted text : List ℕ) (o : Outcome) → HasNoQuote quoted → Reads l false text o → Reads l first (single_quote ∷ (quoted ++ single_quote ∷ text)) (prepend quoted o)
  double : (first : Bool) (quoted word text : List ℕ) (o : Outcome) → Doubled l quoted word → Reads l false text o → Reads l first (double_quote ∷ (quoted ++ double_quote ∷ text)) (prepend word o)
  dollared : (first : Bool) (opening quoted word text : List ℕ) (o : Outcome) → l.dollar_quotes ≡ true → IsOpening opening → Dollared quoted word → Reads l false text o → Reads l first (dollar ∷ (opening ++ (quoted ++ single_quote ∷ text))) (prepend word o)
  trailing : (first : Bool) → Reads l first (backslash ∷ []) (Fault TrailingBackslash (backslash ∷ []))
  unclosed : (first : Bool) (text : List ℕ) → HasNoQuote text → Reads l first (single_quote ∷ text) (Fault UnclosedSingle (single_quote ∷ text))
  undoubled : (first : Bool) (quoted word : List ℕ) → Doubled l quoted word → Reads l first (double_quote ∷ quoted) (Fault UnclosedDouble (double_quote ∷ quoted))
  unescaped : (first : Bool) (quoted word : List ℕ) → Doubled l quoted word → Reads l first (double_quote ∷ (quoted ++ backslash ∷ [])) (Fault UnclosedDouble (double_quote ∷ (quoted ++ backslash ∷ [])))
  undollared : (first : Bool) (opening quoted word : List ℕ) → l.dollar_quotes ≡ true → IsOpening opening → Dollared quoted word → Reads l first (dollar ∷ (opening ++ quoted)) (Fault UnclosedDollar (dollar ∷ (opening ++ quoted)))
  unfinished : (first : Bool) (opening quoted word : List ℕ) → l.dollar_quotes ≡ true → IsOpening opening → Dollared quoted word → Reads l first (dollar ∷ (opening ++ (quoted ++ backslash ∷ []))) (Fault UnclosedDollar (dollar ∷ (opening ++ (quoted ++ backslash ∷ []))))
  unknown : (first : Bool) (opening quoted word text : List ℕ) → l.dollar_quotes ≡ true → IsOpening opening → Dollared quoted word → BeginsNoEscape text → Reads l first (dollar ∷ (opening ++ (quoted ++ backslash ∷ text))) (Fault UnknownEscape (backslash ∷ text))
  special : (first : Bool) (b : ℕ) (text : List ℕ) → l.refuses_specials ≡ true → is_special first b ≡ true → opens_dollar l b text ≡ false → Reads l first (b ∷ text) (Fault Special (b ∷ text))
  expands : (first : Bool) (quoted word : List ℕ) (b : ℕ) (text : List ℕ) → Doubled l quoted word → l.refuses_specials ≡ true → is_special_doubled b ≡ true → Reads l first (double_quote ∷ (quoted ++ b ∷ text)) (Fault Special (b ∷ text))
  keeps : (first : Bool) (quoted word : List ℕ) (b : ℕ) (text : List ℕ) → Doubled l quoted word → l.refuses_specials ≡ true → is_history b ≡ true → Reads l first (double_quote ∷ (quoted ++ backslash ∷ b ∷ text)) (Fault Special (b ∷ text))

-- between words: blanks, and newlines after a backslash, by which lines are joined before words are separated (2.2.1)
pub data IsGap : List ℕ → Type 0 where
  no_gap : IsGap []
  blank : (b : ℕ) (gap : List ℕ) → is_blank b ≡ true → IsGap gap → IsGap (b ∷ gap)
  line_joined : (gap : List ℕ) → IsGap gap → IsGap (backslash ∷ newline ∷ gap)

-- a word begins here: there is text, and it begins with nothing of a gap
pub record Begins (text : List ℕ) : Type 0 where
  pub some : text ≢ []
  pub no_blank : (b : ℕ) (rest : List ℕ) → text ≡ b ∷ rest → is_blank b ≡ false
  pub no_join : (rest : List ℕ) → text ≢ backslash ∷ newline ∷ rest

-- after a gap the line begins with what is read so
pub record IsNext (l : Language) (line : List ℕ) (o : Outcome) : Type 0 where
  pub gap : List ℕ
  pub text : List ℕ
  pub parts : line ≡ gap ++ text
  pub is_gap : IsGap gap
  pub begins : Begins text
  pub reads : Reads l true text o

-- the rest of a line is read as these words and at most one fault, which is last; its index is one in the whole line, which has `len` bytes
abbrev pub AreItems : Language → ℕ → List ℕ → List (Result (List ℕ) WordsFault) → Type 0
AreItems l len line [] = IsGap line
AreItems l len line (Ok word ∷ items) = (rest : List ℕ) × IsNext l line (Word word rest) × AreItems l len rest items
AreItems l len line (Err fault ∷ items) = (left : List ℕ) × IsNext l line (Fault fault.kind left) × (fault.index + length left ≡ len) × (items ≡ [])

-- the line is read as these words and at most one fault
abbrev pub IsRead : Language → List ℕ → List (Result (List ℕ) WordsFault) → Type 0
IsRead l line items = AreItems l (length line) line items

-- these are words, or words and then one fault
abbrev pub HasOneFault : List (Result (List ℕ) WordsFault) → Type 0
HasOneFault items = (words : List (List ℕ)) × ((items ≡ map Ok words) ⊎ ((fault : WordsFault) × (items ≡ map Ok words ++ Err fault ∷ [])))

-- the line is these words
abbrev pub AreWords : Language → List ℕ → List (List ℕ) → Type 0
AreWords l line words = IsRead l line (map Ok words)

-- the language that refuses special characters or not, with dollar-single-quotes or without
abbrev pub language : Bool → Bool → Language
language refuses dollars = record { refuses_specials = refuses; dollar_quotes = dollars }

-- whatever ends a word, the text before it is read as this one
abbrev pub IsTextOf : Language → List ℕ → List ℕ → Type 0
IsTextOf l text word = (after : List ℕ) → Ends after → Begins (text ++ after) × Reads l true (text ++ after) (Word word after)
