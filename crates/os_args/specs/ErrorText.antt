-- What an error prints, on one line.
use Rattle.std.specs.Prelude.{ℕ, List, [], ◌++◌, Option, Some, None, codes}
use Rattle.std.specs.Char.{encode_utf8}
use Rattle.os_quote.specs.declared.form.Form.TheVariants.{Line}
use Rattle.os_quote.specs.Escaped.{escape_in}
use Rattle.os_args.specs.Word.{Kind, Long, LongBytes, Short, ShortBytes, Value}
use Rattle.os_args.specs.Reading.{Fault, UnexpectedValue, MissingValue, UnexpectedArgument}

-- how a string is printed: as its escape on one line; the platform defines the units of bytes
abbrev pub shown : (List ℕ → List ℕ) → List ℕ → List ℕ
shown units s = escape_in Line units s

-- a word that was read, as it was given, without its value
abbrev pub word_text : (List ℕ → List ℕ) → Kind → List ℕ
word_text units (Long name) = codes "--" ++ shown units name
word_text units (LongBytes name) = codes "--" ++ shown units name
word_text units (Short c) = codes "-" ++ shown units (encode_utf8 c)
word_text units (ShortBytes rest) = codes "-" ++ shown units rest
word_text units (Value value) = shown units value

-- the option after which the fault is, where there is one
abbrev pub after_text : (List ℕ → List ℕ) → Option Kind → List ℕ
after_text units None = []
after_text units (Some kind) = codes " after '" ++ (word_text units kind ++ codes "'")

-- what is printed of a fault
abbrev pub fault_text : (List ℕ → List ℕ) → Fault → List ℕ
fault_text units (UnexpectedValue last value) = codes "unexpected value '" ++ (shown units value ++ (codes "'" ++ after_text units last))
fault_text units (MissingValue last) = codes "missing value" ++ after_text units last
fault_text units (UnexpectedArgument kind) = codes "unexpected argument '" ++ (word_text units kind ++ codes "'")

-- what `{:?}` prints of a word that was read
abbrev pub word_debug : (List ℕ → List ℕ) → Kind → List ℕ
word_debug units (Long name) = codes "Long(\"" ++ (shown units name ++ codes "\")")
word_debug units (LongBytes name) = codes "LongBytes(\"" ++ (shown units name ++ codes "\")")
word_debug units (Short c) = codes "Short('" ++ (shown units (encode_utf8 c) ++ codes "')")
word_debug units (ShortBytes rest) = codes "ShortBytes(\"" ++ (shown units rest ++ codes "\")")
word_debug units (Value value) = codes "Value(\"" ++ (shown units value ++ codes "\")")
