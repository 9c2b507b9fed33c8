-- The part of a text that is unchanged in its escape, found by its bytes. Only private contracts name these; `IsEscapeBy` says what an escape is.
use Rattle.std.specs.Prelude.{◌≡◌, ◌≢◌, ℕ, ◌+◌, ◌/◌, ◌≤◌, ◌<◌, nat_eq, not, Bool, true, false, List, ◌++◌, length, slice_index, bit_and, bit_or}
use Rattle.std.specs.{List.AllByRecursion, Char.encode_utf8, Str.IsUtf8, Str.chars}
use Rattle.os_quote.specs.{Item.backslash, declared.find_tables.TheConstants.FIRST_HIGH, declared.find_tables.TheConstants.FIRST_LOW, declared.find_tables.TheConstants.SECOND_HIGH, declared.find_tables.TheConstants.SECOND_LOW, declared.find_tables.TheConstants.THIRD_HIGH, declared.find_tables.TheConstants.THIRD_LOW, declared.find_tables.TheConstants.OTHER_HIGH, declared.find_tables.TheConstants.OTHER_LOW}

-- the character is unchanged in the escape of the form that shows these characters
abbrev pub IsUnchanged : (ℕ → Bool) → ℕ → Type 0
IsUnchanged shows c = (c ≢ backslash) × (shows c ≡ true)

-- each character of the text is
abbrev pub AreUnchanged : (ℕ → Bool) → List ℕ → Type 0
AreUnchanged shows text = AllByRecursion (IsUnchanged shows) (chars text)

-- the text is cut around the first character that isn't, which is written as a token
pub record IsCutAtToken (shows : ℕ → Bool) (text prefix : List ℕ) (character : ℕ) (following : List ℕ) : Type 0 where
  pub unchanged : AreUnchanged shows prefix
  pub hidden : ¬ (IsUnchanged shows character)
  pub joined : text ≡ prefix ++ (encode_utf8 character ++ following)
  pub prefix_text : IsUtf8 prefix
  pub after_text : IsUtf8 following

-- the kinds of a byte, a bit each, by two small tables of its halves
abbrev pub byte_bits : List ℕ → List ℕ → ℕ → ℕ
byte_bits high low b = bit_and (slice_index high (b / 16)) (slice_index low (bit_and b 15))

-- the kinds of characters that a byte may begin, that may have it second, and third
abbrev pub kind_bits : ℕ → ℕ
kind_bits x = byte_bits FIRST_HIGH FIRST_LOW x

abbrev pub second_bits : ℕ → ℕ
second_bits y = byte_bits SECOND_HIGH SECOND_LOW y

abbrev pub third_bits : ℕ → ℕ
third_bits z = bit_or (byte_bits THIRD_HIGH THIRD_LOW z) (byte_bits OTHER_HIGH OTHER_LOW z)

-- the kinds that it may begin before two others
abbrev pub kind_bits_of_two : ℕ → ℕ → ℕ
kind_bits_of_two x y = bit_and (kind_bits x) (second_bits y)

abbrev pub suspect_bits : ℕ → ℕ → ℕ → ℕ
suspect_bits x y z = bit_and (kind_bits_of_two x y) (third_bits z)

-- whether a byte before two others may begin a character that doesn't stay as it is: it may be of some kind
unfoldable pub is_suspect : ℕ → ℕ → ℕ → Bool
is_suspect x y z = not (nat_eq (suspect_bits x y z) 0)

-- no byte from one index up to another is a suspect
abbrev pub AllClear : List ℕ → ℕ → ℕ → Type 0
AllClear bytes from end = (k : ℕ) → from ≤ k → k < end → is_suspect (slice_index bytes k) (slice_index bytes (1 + k)) (slice_index bytes (2 + k)) ≡ false

-- the first suspect from an index on
pub record IsNextSuspect (bytes : List ℕ) (start at : ℕ) : Type 0 where
  pub from : start ≤ at
  pub within : at < length bytes
  pub clear : AllClear bytes start at
  pub suspect : is_suspect (slice_index bytes at) (slice_index bytes (1 + at)) (slice_index bytes (2 + at)) ≡ true
