-- How far an escape has been read, step by step. Only private contracts name these; `IsEscape` says what an escape is.
use Rattle.std.specs.Prelude.{◌≡◌, ◌≢◌, ℕ, ◌+◌, ◌/◌, ◌%◌, ◌<◌, ◌≤◌, Bool, List, [], ◌∷◌, ◌++◌, length}
use Rattle.std.specs.{List.flat_map, List.AllByRecursion, Char.encode_utf8, Str.IsUtf8}
use Rattle.wtf8_core.specs.{CodePoint.encode, FaultText.upper_hex_digit}
use Rattle.os_quote.specs.{Item.Item, Item.Character, Item.Backslash, Item.ByteUnit, Item.WideUnit, Item.LongCharacter, Item.backslash, Item.wide_digits, Item.long_digits, Item.item_texts, Item.IsLong, Item.HasLongTokens, Item.IsItem, declared.read_token.Token.Token}
use Rattle.os_quote.specs.declared.read_token.Token.TheVariants as token

-- the item that a token is
abbrev pub token_item : Token → Item
token_item token.Backslash = Backslash
token_item (token.Byte u) = ByteUnit u
token_item (token.Wide u) = WideUnit u
token_item (token.Long c) = LongCharacter c

-- the bytes that an item means, on each platform
abbrev pub item_bytes : Item → List ℕ
item_bytes (Character c) = encode_utf8 c
item_bytes Backslash = backslash ∷ []
item_bytes (ByteUnit u) = u ∷ []
item_bytes (WideUnit u) = encode u
item_bytes (LongCharacter c) = encode_utf8 c

-- none of the bytes is a backslash
abbrev pub HasNoBackslash : List ℕ → Type 0
HasNoBackslash bs = AllByRecursion (λ b. b ≢ backslash) bs

-- the bytes are cut at their first backslash
pub record IsCutAtFirst (bytes prefix following : List ℕ) : Type 0 where
  pub none_before : HasNoBackslash prefix
  pub joined : bytes ≡ prefix ++ backslash ∷ following

-- the text begins with items of the form that mean these bytes, and the rest, which is text too, is left
pub record IsRead (shows : ℕ → Bool) (text bytes rest : List ℕ) : Type 0 where
  pub items : List Item
  pub are : AllByRecursion (IsItem shows) items
  pub joined : text ≡ item_texts items ++ rest
  pub bytes_are : bytes ≡ flat_map item_bytes items
  pub text_left : IsUtf8 rest

-- bytes that may be invalid UTF-8: if they are valid, they are read
pub record AreBytesRead (shows : ℕ → Bool) (bytes decoded rest : List ℕ) : Type 0 where
  pub short : length decoded + length rest ≤ length bytes
  pub read : IsUtf8 bytes → IsRead shows bytes decoded rest

-- the bytes don't begin with the four digits of a number of 16 bits
abbrev pub HasNoWide : List ℕ → Type 0
HasNoWide bytes = (u : ℕ) → u < 0x1_0000 → (after : List ℕ) → bytes ≢ wide_digits u ++ after

-- nor with braces around the digits of a code point past FFFF
abbrev pub HasNoLong : List ℕ → Type 0
HasNoLong bytes = (c : ℕ) → IsLong c → (after : List ℕ) → bytes ≢ 0x7B ∷ (long_digits c ++ 0x7D ∷ after)

-- no token consists of `\u` and what these bytes begin with
abbrev pub HasNoNumber : (ℕ → Bool) → List ℕ → Type 0
HasNoNumber shows bytes = HasNoWide bytes × (HasLongTokens shows → HasNoLong bytes)

-- the bytes don't begin with these digits, four more and a closing brace
abbrev pub HasNoClosed : List ℕ → List ℕ → Type 0
HasNoClosed front bytes = (u : ℕ) → u < 0x1_0000 → (after : List ℕ) → bytes ≢ front ++ (wide_digits u ++ 0x7D ∷ after)

-- the bytes are these digits, the last four of c, a closing brace and the rest, and `high` is the value of the other digits of c
abbrev pub IsClosed : List ℕ → ℕ → List ℕ → ℕ → List ℕ → Type 0
IsClosed front high bytes c rest = (c / 0x1_0000 ≡ high) × (bytes ≡ front ++ (wide_digits (c % 0x1_0000) ++ 0x7D ∷ rest))

-- the bytes don't begin with five digits and a closing brace, where the first digit isn't 0
abbrev pub HasNoFive : List ℕ → Type 0
HasNoFive bytes = (h : ℕ) → 0 < h → h < 16 → (u : ℕ) → u < 0x1_0000 → (after : List ℕ) → bytes ≢ upper_hex_digit h ∷ (wide_digits u ++ 0x7D ∷ after)

abbrev pub IsFive : List ℕ → ℕ → List ℕ → Type 0
IsFive bytes c rest = (0 < c / 0x1_0000) × ((c / 0x1_0000 < 16) × (bytes ≡ upper_hex_digit (c / 0x1_0000) ∷ (wide_digits (c % 0x1_0000) ++ 0x7D ∷ rest)))
