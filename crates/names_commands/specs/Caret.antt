-- The lines below the fault of a pattern, which show where it is.
use Rattle.std.specs.Prelude.{◌≡◌, ℕ, nat_lt, nat_le, cond, List, [], ◌∷◌, ◌++◌, take, length, codes}
use Rattle.std.specs.Char.{encode_utf8}
use Rattle.std.specs.List.{flat_map}
use Rattle.std.specs.Str.{chars}
use Rattle.os_quote.specs.Escape.{IsLineEscape}
use Rattle.os_str_bytes.specs.UnixPlatform.TheImpl as unix

-- what takes as many columns as a character: a space for one before U+0300, and else the character itself, since a terminal may show it in none, one or two
abbrev pub as_wide : ℕ → List ℕ
as_wide c = cond (nat_lt c 0x300) (0x20 ∷ []) (encode_utf8 c)

-- what takes as many columns as a text
abbrev pub spaces_below : List ℕ → List ℕ
spaces_below text = flat_map as_wide (chars text)

-- a text on a line, and on the next one a caret below what comes after its beginning, which is given with a `^` after it: so that line begins with a space less
abbrev pub caret_text : List ℕ → List ℕ → List ℕ
caret_text text marked = codes "\n  " ++ (text ++ (codes "\n " ++ (spaces_below marked ++ codes "^")))

-- the text, or nothing where it is longer than there is room for
abbrev pub fitting : ℕ → List ℕ → List ℕ
fitting room text = cond (nat_le (length text) room) text []

-- the escape of a pattern, and a caret below the place of its byte at the index; nothing where both have more than 400 bytes
pub record IsPointed (pattern : List ℕ) (index : ℕ) (text : List ℕ) : Type 0 where
  pub escape : List ℕ
  pub escape_is : IsLineEscape unix.ghosts.units pattern escape
  -- what precedes the place, and a `^`, so that no space of it is at the end
  pub marked : List ℕ
  pub marked_is : IsLineEscape unix.ghosts.units (take index pattern ++ codes "^") marked
  pub text_is : text ≡ fitting 400 (caret_text escape marked)
