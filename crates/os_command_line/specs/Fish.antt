-- Names as words of fish (fish's documentation, "The fish language", "Quotes" and "Escaping Characters"). Names and texts are lists of bytes; fish reads characters, in each charset that keeps the bytes of `Charset`.
use Rattle.std.specs.Prelude.{◌≡◌, ◌≢◌, ℕ, nat_eq, nat_lt, Bool, true, false, ◌||◌, if◌then◌else◌, Option, List, [], ◌∷◌, ◌++◌}
use Rattle.wtf8_core.specs.Utf8.{IsUtf8Fault}
use Rattle.os_command_line.specs.Charset.{is_one, AreCharacters}
use Rattle.os_command_line.specs.ShellWriting.{is_plain, is_plain_name, HasNoNul, IsFirstNul}
use Rattle.os_command_line.specs.declared.shell.fish.FishError.{FishError}
use Rattle.os_command_line.specs.declared.shell.fish.FishError.TheVariants as error
use Rattle.os_command_line.specs.declared.shell.fish.FishQuoted.{FishQuoted}

-- a single quote or a backslash: in single quotes a backslash escapes it
abbrev pub is_escaped : ℕ → Bool
is_escaped b = nat_eq b 0x27 || nat_eq b 0x5C

-- a space, a tab or a newline
abbrev pub is_gap : ℕ → Bool
is_gap b = nat_eq b 0x20 || (nat_eq b 0x09 || nat_eq b 0x0A)

-- a word ends before these characters: at the end, or before a space, a tab or a newline
abbrev pub EndsWord : List (List ℕ) → Type 0
EndsWord [] = Unit {0}
EndsWord (c ∷ cs) = is_one is_gap c ≡ true

-- From here, in single quotes or not, the characters are read as the rest of this word, up to `after`.
-- Outside quotes a plain byte means itself, a backslash escapes a single quote or a backslash, and a single quote opens a quoted part.
-- In a quoted part a single quote closes it, and a backslash escapes a single quote or a backslash.
-- Any other character means itself there, and so does a backslash before it.
pub data ReadsWord (after : List (List ℕ)) : Bool → List (List ℕ) → List ℕ → Type 0 where
  ends : EndsWord after → ReadsWord after false after []
  bare : (c : List ℕ) (text : List (List ℕ)) (word : List ℕ) → is_one is_plain c ≡ true → ReadsWord after false text word → ReadsWord after false (c ∷ text) (c ++ word)
  bare_escaped : (c : List ℕ) (text : List (List ℕ)) (word : List ℕ) → is_one is_escaped c ≡ true → ReadsWord after false text word → ReadsWord after false ((0x5C ∷ []) ∷ c ∷ text) (c ++ word)
  opens : (text : List (List ℕ)) (word : List ℕ) → ReadsWord after true text word → ReadsWord after false ((0x27 ∷ []) ∷ text) word
  closes : (text : List (List ℕ)) (word : List ℕ) → ReadsWord after false text word → ReadsWord after true ((0x27 ∷ []) ∷ text) word
  escaped : (c : List ℕ) (text : List (List ℕ)) (word : List ℕ) → is_one is_escaped c ≡ true → ReadsWord after true text word → ReadsWord after true ((0x5C ∷ []) ∷ c ∷ text) (c ++ word)
  kept : (c : List ℕ) (text : List (List ℕ)) (word : List ℕ) → is_one is_escaped c ≡ false → ReadsWord after true text word → ReadsWord after true ((0x5C ∷ []) ∷ c ∷ text) (0x5C ∷ (c ++ word))
  itself : (c : List ℕ) (text : List (List ℕ)) (word : List ℕ) → is_one is_escaped c ≡ false → ReadsWord after true text word → ReadsWord after true (c ∷ text) (c ++ word)

-- a word ends before these bytes, in each charset
abbrev pub EndsBefore : List ℕ → Type 0
EndsBefore [] = Unit {0}
EndsBefore (b ∷ bs) = is_gap b ≡ true

-- the text isn't empty, and in each charset, whatever ends the word, its characters are read as this one
abbrev pub IsFishText : List ℕ → List ℕ → Type 0
IsFishText text word = (text ≢ []) × ((after : List ℕ) → (cs : List (List ℕ)) → EndsBefore after → AreCharacters (text ++ after) cs → (rest : List (List ℕ)) × AreCharacters after rest × ReadsWord rest false cs word)

-- A byte in single quotes, after one from 80 (hexadecimal) on or not. No backslash comes after such a byte, which may be one character with it: the quotes end before the backslash, and begin again after the byte that it escapes.
abbrev pub fish_byte : Bool → ℕ → List ℕ
fish_byte high b =
    if is_escaped b then (if high then 0x27 ∷ 0x5C ∷ b ∷ 0x27 ∷ [] else 0x5C ∷ b ∷ []) else b ∷ []

-- bytes in single quotes, after one from 80 on or not
abbrev pub fish_bytes : Bool → List ℕ → List ℕ
fish_bytes high [] = []
fish_bytes high (b ∷ bs) = fish_byte high b ++ fish_bytes (nat_lt 0x7F b) bs

-- a name in single quotes
abbrev pub fish_quoted : List ℕ → List ℕ
fish_quoted name = 0x27 ∷ (fish_bytes false name ++ 0x27 ∷ [])

-- a name as a word
abbrev pub fish_word : List ℕ → List ℕ
fish_word name = if is_plain_name name then name else fish_quoted name

-- what is printed of a name
abbrev pub fish_text : FishQuoted → List ℕ
fish_text q = fish_word q.text.now

-- why a name isn't printed: its first NUL, or else the index of its first invalid UTF-8
abbrev pub IsFishFault : List ℕ → FishError → Type 0
IsFishFault name (error.Nul index) = IsFirstNul name index
IsFishFault name (error.NotText index) = HasNoNul name × ((error_len : Option ℕ) × IsUtf8Fault name index error_len)
