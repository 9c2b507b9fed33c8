-- The start of a string. Only private contracts name these.
use Rattle.std.specs.Prelude.{◌≡◌, ℕ, ◌+◌, ◌<◌, ◌≤◌, nat_lt, Bool, if◌then◌else◌, List, ◌++◌, length, take}
use Rattle.std.specs.Str.{IsUtf8}
use Rattle.os_quote.specs.{Item.Item, Item.ByteUnit, Item.character_item, Escaped.escape_of}

-- a byte that is written alone: a character of ASCII, or a unit
abbrev pub byte_item : (ℕ → Bool) → ℕ → Item
byte_item shows b = if nat_lt b 0x80 then character_item shows b else ByteUnit b

-- the escape of a string begins with a text; what follows the text is the escape of the rest, a string
pub record BeginsWith (shows : ℕ → Bool) (well_formed : List ℕ → Type 0) (units : List ℕ → List ℕ) (bytes text rest : List ℕ) : Type 0 where
  pub formed : well_formed rest
  pub shorter : length rest < length bytes
  pub escape : escape_of shows units bytes ≡ text ++ escape_of shows units rest

-- the bytes are a text that isn't empty, and then the rest
pub record IsCutAfterText (bytes text rest : List ℕ) : Type 0 where
  pub some : 0 < length text
  pub is_text : IsUtf8 text
  pub joined : bytes ≡ text ++ rest

-- a text is written from an index up to another, after what was there before
pub record IsPut (old new : List ℕ) (at : ℕ) (text : List ℕ) (end : ℕ) : Type 0 where
  pub within : end ≤ at + 8
  pub is_text : IsUtf8 text
  pub written : take end new ≡ take at old ++ text
