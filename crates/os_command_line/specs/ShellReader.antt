-- The steps of a reader of words. Only views and private contracts name these; `Reads` and `IsRead` define how a line is read.
use Rattle.std.specs.Prelude.{ℕ, zero, suc, ◌-◌, nat_eq, Bool, true, false, not, ◌||◌, ◌&&◌, if◌then◌else◌, Option, None, Some, Result, Ok, Err, option_to_list, List, [], ◌∷◌, ◌++◌, length}
use Rattle.os_command_line.specs.declared.shell.language.Language.{Language}
use Rattle.os_command_line.specs.declared.shell.step.State.{State}
use Rattle.os_command_line.specs.declared.shell.step.State.TheVariants.{Start, Bare, Single, Double, Dollar}
use Rattle.os_command_line.specs.declared.shell.step.Step.{Step}
use Rattle.os_command_line.specs.declared.shell.step.Step.TheVariants.{End, Go, Refuse}
use Rattle.os_command_line.specs.declared.shell.fault.FaultKind.TheVariants.{UnclosedSingle, UnclosedDouble, UnclosedDollar, TrailingBackslash, Special, UnknownEscape}
use Rattle.os_command_line.specs.declared.shell.fault.WordsFault.{WordsFault}
use Rattle.os_command_line.specs.Shell.{single_quote, double_quote, backslash, newline, is_mark, is_blank, is_special, is_special_doubled, is_escapable, opens_dollar, letter_meaning, octal_meaning, Outcome, prepend}
use Rattle.os_command_line.specs.Shell.Outcome.{Word, Fault}

abbrev pub is_start : State → Bool
is_start Start = true
is_start Bare = false
is_start Single = false
is_start Double = false
is_start Dollar = false

-- outside quotes
abbrev pub is_outside : State → Bool
is_outside Start = true
is_outside Bare = true
is_outside Single = false
is_outside Double = false
is_outside Dollar = false

-- after a backslash outside quotes
abbrev pub escape_step : State → List ℕ → Step
escape_step s [] = Refuse TrailingBackslash
escape_step s (c ∷ text) = if nat_eq c newline then Go None s 1 else Go (Some c) Bare 1

-- how many bytes open dollar-single-quotes after the `$`
abbrev pub opening_len : List ℕ → ℕ
opening_len [] = zero
opening_len (b ∷ []) = 1
opening_len (b ∷ c ∷ text) = if nat_eq b backslash then suc (suc (opening_len text)) else 1

-- outside quotes, where the word goes on
abbrev pub bare_step : Language → State → ℕ → List ℕ → Step
bare_step l s b text =
    if opens_dollar l b text then Go None Dollar (opening_len text)
    else (if l.refuses_specials && is_special (is_start s) b then Refuse Special else Go (Some b) Bare 0)

abbrev pub outside_step : Language → State → ℕ → List ℕ → Step
outside_step l s b text =
    if nat_eq b single_quote then Go None Single 0
    else (if nat_eq b double_quote then Go None Double 0
    else (if nat_eq b backslash then escape_step s text
    else (if is_blank b then End else bare_step l s b text)))

-- in single quotes
abbrev pub single_step : ℕ → Step
single_step b = if nat_eq b single_quote then Go None Bare 0 else Go (Some b) Single 0

-- after a backslash in double quotes
abbrev pub double_escape_step : List ℕ → Step
double_escape_step [] = Go (Some backslash) Double 0
double_escape_step (c ∷ text) = if is_escapable c then Go (Some c) Double 1 else (if nat_eq c newline then Go None Double 1 else Go (Some backslash) Double 0)

-- in double quotes
abbrev pub double_step : Language → ℕ → List ℕ → Step
double_step l b text =
    if nat_eq b double_quote then Go None Bare 0
    else (if nat_eq b backslash then double_escape_step text
    else (if l.refuses_specials && is_special_doubled b then Refuse Special else Go (Some b) Double 0))

-- after a backslash in dollar-single-quotes
abbrev pub meaning_step : ℕ → Option ℕ → Step
meaning_step n None = Refuse UnknownEscape
meaning_step n (Some b) = Go (Some b) Dollar n

abbrev pub octal_step : ℕ → List ℕ → Step
octal_step c [] = Refuse UnknownEscape
octal_step c (d ∷ []) = Refuse UnknownEscape
octal_step c (d ∷ e ∷ text) = meaning_step 3 (octal_meaning c d e)

abbrev pub letter_step : ℕ → List ℕ → Option ℕ → Step
letter_step c text None = octal_step c text
letter_step c text (Some b) = Go (Some b) Dollar 1

abbrev pub dollar_escape_step : List ℕ → Step
dollar_escape_step [] = Go (Some backslash) Dollar 0
dollar_escape_step (c ∷ text) = letter_step c text (letter_meaning c)

-- in dollar-single-quotes
abbrev pub dollar_step : ℕ → List ℕ → Step
dollar_step b text = if nat_eq b single_quote then Go None Bare 0 else (if nat_eq b backslash then dollar_escape_step text else Go (Some b) Dollar 0)

-- one byte before this text: the word ends before it, or is rejected, or goes on with at most one byte that is meant and a number of bytes after this one that are passed over
abbrev pub step : Language → State → ℕ → List ℕ → Step
step l Start b text = outside_step l Start b text
step l Bare b text = outside_step l Bare b text
step l Single b text = single_step b
step l Double b text = double_step l b text
step l Dollar b text = dollar_step b text

-- the text ends; `from` is what begins with the quote that is open
abbrev pub at_end : State → List ℕ → Outcome
at_end Start from = Word [] []
at_end Bare from = Word [] []
at_end Single from = Fault UnclosedSingle from
at_end Double from = Fault UnclosedDouble from
at_end Dollar from = Fault UnclosedDollar from

-- what begins with the quote that is open, after a step at `here`
abbrev pub opened : State → List ℕ → List ℕ → List ℕ
opened s from here = if is_outside s then here else from

-- where the reader is after a step, and how many bytes it passes over
abbrev pub next_state : State → Step → State
next_state s End = s
next_state s (Refuse kind) = s
next_state s (Go out next n) = next

abbrev pub passed : Step → ℕ
passed End = zero
passed (Refuse kind) = zero
passed (Go out next n) = n

-- the outcome where a step is made at `here`, and this one comes after it
abbrev pub after_step : List ℕ → Step → Outcome → Outcome
after_step here End o = Word [] here
after_step here (Refuse kind) o = Fault kind here
after_step here (Go out next n) o = prepend (option_to_list out) o

-- the rest of a word, after a number of bytes that are passed over
unfoldable pub run : Language → State → List ℕ → ℕ → List ℕ → Outcome
run l s from k [] = at_end s from
run l s from (suc k) (b ∷ text) = run l s from k text
run l s from zero (b ∷ text) =
    after_step (b ∷ text) (step l s b text) (run l (next_state s (step l s b text)) (opened s from (b ∷ text)) (passed (step l s b text)) text)

-- a byte that means itself outside quotes in each language, first in a word or not
abbrev pub is_itself : Bool → ℕ → Bool
is_itself first b = not (is_mark b || (is_blank b || is_special first b))

-- what is meant where a step is made, and these bytes after it
abbrev pub with_step : Step → List ℕ → List ℕ
with_step End more = []
with_step (Refuse kind) more = []
with_step (Go out next n) more = option_to_list out ++ more

-- what is still to come of a text that is one word
unfoldable pub meant : Language → State → ℕ → List ℕ → List ℕ
meant l s k [] = []
meant l s (suc k) (b ∷ text) = meant l s k text
meant l s zero (b ∷ text) = with_step (step l s b text) (meant l (next_state s (step l s b text)) (passed (step l s b text)) text)

-- what is meant by the text of a word, where each byte means itself or not
abbrev pub raw_bytes : Language → Bool → List ℕ → List ℕ
raw_bytes l bare raw = if bare then raw else meant l Start zero raw

-- what is still to come of it
abbrev pub bytes_left : Language → Bool → State → List ℕ → List ℕ
bytes_left l bare s text = if bare then text else meant l s zero text

-- the outcome for a text that begins a word
abbrev pub outcome : Language → List ℕ → Outcome
outcome l text = run l Start [] zero text

-- what comes after the gap at the start
unfoldable pub after_gap : List ℕ → List ℕ
after_gap [] = []
after_gap (b ∷ []) = if is_blank b then [] else b ∷ []
after_gap (b ∷ c ∷ text) = if is_blank b then after_gap (c ∷ text) else (if nat_eq b backslash && nat_eq c newline then after_gap text else b ∷ c ∷ text)

-- what is found after a gap: nothing, or a word or a fault
abbrev pub found : Language → List ℕ → Option Outcome
found l [] = None
found l (b ∷ text) = Some (outcome l (b ∷ text))

abbrev pub rest_of : Option Outcome → List ℕ
rest_of None = []
rest_of (Some (Word word after)) = after
rest_of (Some (Fault kind left)) = []

-- the items where this is found in a line of `len` bytes, and those after it
abbrev pub with_found : ℕ → Option Outcome → List (Result (List ℕ) WordsFault) → List (Result (List ℕ) WordsFault)
with_found len None items = []
with_found len (Some (Word word after)) items = Ok word ∷ items
with_found len (Some (Fault kind left)) items = Err (record { kind = kind; index = len - length left }) ∷ []

-- the items of the rest of a line of `len` bytes, at most `n` of them
unfoldable pub items_within : Language → ℕ → ℕ → List ℕ → List (Result (List ℕ) WordsFault)
items_within l len zero line = []
items_within l len (suc n) line = with_found len (found l (after_gap line)) (items_within l len n (rest_of (found l (after_gap line))))

-- the items of the rest of a line of `len` bytes
abbrev pub items_of : Language → ℕ → List ℕ → List (Result (List ℕ) WordsFault)
items_of l len line = items_within l len (length line) line
