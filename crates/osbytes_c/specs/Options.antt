-- What is read of a word of a command line: an option or an operand, by its indices in the word.
use Rattle.std.specs.Prelude.{◌≡◌, ◌≤◌, ℕ, zero, suc, Bool, true, false, List, [], length, drop, None}
use Rattle.std.specs.Char.{encode_utf8}
use Rattle.os_args.specs.Word.{Kind, Long, LongBytes, Short, ShortBytes, Value}
use Rattle.os_args.specs.Reading.{Reading}
use Rattle.osbytes_c.specs.declared.options.OptionSpan.{OptionSpan}
use Rattle.osbytes_c.specs.Steps.{part}

-- whether words that start as negative numbers do are operands
abbrev pub numbers_of : ℕ → Bool
numbers_of zero = false
numbers_of (suc n) = true

-- 1 a name, 2 a name that isn't text, 3 a character, 4 bytes that don't begin with a character, 5 an operand
abbrev pub kind_number : Kind → ℕ
kind_number (Long name) = 1
kind_number (LongBytes name) = 2
kind_number (Short c) = 3
kind_number (ShortBytes rest) = 4
kind_number (Value value) = 5

-- the character, and 0 where there is none
abbrev pub value_of : Kind → ℕ
value_of (Long name) = 0
value_of (LongBytes name) = 0
value_of (Short c) = c
value_of (ShortBytes rest) = 0
value_of (Value value) = 0

-- its bytes
abbrev pub text_of : Kind → List ℕ
text_of (Long name) = name
text_of (LongBytes name) = name
text_of (Short c) = encode_utf8 c
text_of (ShortBytes rest) = rest
text_of (Value value) = value

-- how many bytes come before them in a word: `--`, `-` or nothing
abbrev pub marks_of : Kind → ℕ
marks_of (Long name) = 2
marks_of (LongBytes name) = 2
marks_of (Short c) = 1
marks_of (ShortBytes rest) = 1
marks_of (Value value) = 0

-- a list of words before any of them is read
abbrev pub unread : Bool → List (List ℕ) → Reading
unread numbers given = record { given = given; index = 0; pending = []; ended = false; numbers = numbers; last = None }

-- this is read of the word, with its bytes from an index up to another, and what comes after them is left
pub record IsOptionIn (Reads : Kind → List ℕ → Type 0) (word : List ℕ) (span : OptionSpan) : Type 0 where
  pub kind : Kind
  pub reads : Reads kind (drop span.end word)
  pub number : span.kind ≡ kind_number kind
  pub value : span.value ≡ value_of kind
  pub text : part word span.start span.end ≡ text_of kind
  pub ordered : span.start ≤ span.end
  pub within : span.end ≤ length word
