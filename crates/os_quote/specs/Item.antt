-- The items of an escape, and how each is written (this project's own format).
use Rattle.std.specs.Prelude.{◌≡◌, ◌≢◌, ℕ, ◌/◌, ◌%◌, ◌<◌, ◌≤◌, nat_lt, nat_eq, Bool, false, if◌then◌else◌, List, [], ◌∷◌, ◌++◌}
use Rattle.std.specs.{List.flat_map, Char.IsScalar, Char.encode_utf8}
use Rattle.wtf8_core.specs.FaultText.{upper_hex_digit}

-- the code of `\`
abbrev pub backslash : ℕ
backslash = 0x5C

-- a character other than the backslash; or a token, for a backslash, for a unit below 100 (hexadecimal), for a unit or a character of 16 bits, or for a character past FFFF
pub data Item : Type 0 where
  Character : ℕ → Item
  Backslash : Item
  ByteUnit : ℕ → Item
  WideUnit : ℕ → Item
  LongCharacter : ℕ → Item

-- the two digits of a number below 100
abbrev pub byte_digits : ℕ → List ℕ
byte_digits b = upper_hex_digit (b / 0x10) ∷ upper_hex_digit (b % 0x10) ∷ []

-- the four digits of a number of 16 bits
abbrev pub wide_digits : ℕ → List ℕ
wide_digits u = byte_digits (u / 0x100) ++ byte_digits (u % 0x100)

-- the digits of a number below 100, without a leading zero
abbrev pub high_digits : ℕ → List ℕ
high_digits h = if nat_lt h 0x10 then upper_hex_digit h ∷ [] else byte_digits h

-- the digits of a code point past FFFF, without a leading zero: five, or six from 10_0000 on
abbrev pub long_digits : ℕ → List ℕ
long_digits c = high_digits (c / 0x1_0000) ++ wide_digits (c % 0x1_0000)

-- the character itself; `\\`; `\x` and two digits; `\u` and four; `\u{`, five or six, and `}`
abbrev pub item_text : Item → List ℕ
item_text (Character c) = encode_utf8 c
item_text Backslash = backslash ∷ backslash ∷ []
item_text (ByteUnit u) = backslash ∷ 0x78 ∷ byte_digits u
item_text (WideUnit u) = backslash ∷ 0x75 ∷ wide_digits u
item_text (LongCharacter c) = backslash ∷ 0x75 ∷ 0x7B ∷ (long_digits c ++ 0x7D ∷ [])

-- the texts of items, one after the other
abbrev pub item_texts : List Item → List ℕ
item_texts items = flat_map item_text items

-- a code point past FFFF
abbrev pub IsLong : ℕ → Type 0
IsLong c = (0x1_0000 ≤ c) × (c < 0x11_0000)

-- `shows` gives the characters that a form of the escape shows unchanged: the form has long tokens if it hides some character past FFFF
pub record HasLongTokens (shows : ℕ → Bool) : Type 0 where
  pub character : ℕ
  pub past : 0x1_0000 ≤ character
  pub hidden : shows character ≡ false

-- the number in an item is one that the item can have, and the form has tokens of this kind
abbrev pub IsItem : (ℕ → Bool) → Item → Type 0
IsItem shows (Character c) = IsScalar c × (c ≢ backslash)
IsItem shows Backslash = Unit {0}
IsItem shows (ByteUnit u) = u < 0x100
IsItem shows (WideUnit u) = u < 0x1_0000
IsItem shows (LongCharacter c) = HasLongTokens shows × IsLong c

-- a unit of a part: two digits if it is below 100, else four
abbrev pub unit_item : ℕ → Item
unit_item u = if nat_lt u 0x100 then ByteUnit u else WideUnit u

-- a character that isn't shown unchanged: four digits up to FFFF
abbrev pub hidden_item : ℕ → Item
hidden_item c = if nat_lt c 0x1_0000 then WideUnit c else LongCharacter c

-- a character of a text: each backslash is doubled, and a character that the form hides is a token
abbrev pub character_item : (ℕ → Bool) → ℕ → Item
character_item shows c = if nat_eq c backslash then Backslash else (if shows c then Character c else hidden_item c)
