-- How `sh` reads words of characters (POSIX.1-2024, Shell Command Language, 2.2 and 2.3): the rules of `Shell`, where a longer character is no quote, no blank, nothing special and no letter of an escape. The blanks are space, tab and newline.
use Rattle.std.specs.Prelude.{◌≡◌, ◌≢◌, ℕ, nat_eq, Bool, true, false, ◌||◌, ◌&&◌, Some, List, [], ◌∷◌, ◌++◌}
use Rattle.std.specs.List.{AllByRecursion}
use Rattle.os_command_line.specs.declared.shell.language.Language.{Language}
use Rattle.os_command_line.specs.Charset.{joined, single_bytes, is_one, is_byte, AreCharacters}
use Rattle.os_command_line.specs.Shell.{single_quote, double_quote, backslash, dollar, newline, is_mark, is_blank, is_special, is_special_doubled, is_escapable, escape_meaning}

-- whether the characters begin with a single quote; a backslash and a newline before it are left out first (2.2.1)
abbrev pub begins_quote : List (List ℕ) → Bool
begins_quote [] = false
begins_quote (c ∷ []) = is_byte single_quote c
begins_quote (c ∷ d ∷ cs) = is_byte single_quote c || (is_byte backslash c && (is_byte newline d && begins_quote cs))

-- whether dollar-single-quotes begin with this character before these, in a language that has them
abbrev pub opens_dollar : Language → List ℕ → List (List ℕ) → Bool
opens_dollar l c cs = l.dollar_quotes && (is_byte dollar c && begins_quote cs)

-- what begins dollar-single-quotes after the `$`
pub data IsOpening : List (List ℕ) → Type 0 where
  quote : IsOpening ((single_quote ∷ []) ∷ [])
  line_joined : (opening : List (List ℕ)) → IsOpening opening → IsOpening ((backslash ∷ []) ∷ (newline ∷ []) ∷ opening)

-- a character that means itself outside quotes, before these, where it is first in a word or not
pub record IsBare (l : Language) (first : Bool) (c : List ℕ) (cs : List (List ℕ)) : Type 0 where
  pub no_mark : is_one is_mark c ≡ false
  pub no_blank : is_one is_blank c ≡ false
  pub no_dollar : opens_dollar l c cs ≡ false
  pub no_special : l.refuses_specials && is_one (is_special first) c ≡ false

-- no single quote is there
abbrev pub HasNoQuote : List (List ℕ) → Type 0
HasNoQuote cs = AllByRecursion (λ c. is_byte single_quote c ≡ false) cs

-- a character that means itself in double quotes
pub record IsItselfDoubled (l : Language) (c : List ℕ) : Type 0 where
  pub no_quote : is_byte double_quote c ≡ false
  pub no_backslash : is_byte backslash c ≡ false
  pub no_special : l.refuses_specials && is_one is_special_doubled c ≡ false

-- In double quotes (2.2.3) a character means itself; a backslash before $ ` " or \ escapes it; a backslash and a newline are left out; before any other character a backslash means itself.
pub data Doubled (l : Language) : List (List ℕ) → List ℕ → Type 0 where
  none : Doubled l [] []
  plain : (c : List ℕ) (text : List (List ℕ)) (word : List ℕ) → IsItselfDoubled l c → Doubled l text word → Doubled l (c ∷ text) (c ++ word)
  escape : (c : List ℕ) (text : List (List ℕ)) (word : List ℕ) → is_one is_escapable c ≡ true → Doubled l text word → Doubled l ((backslash ∷ []) ∷ c ∷ text) (c ++ word)
  line_joined : (text : List (List ℕ)) (word : List ℕ) → Doubled l text word → Doubled l ((backslash ∷ []) ∷ (newline ∷ []) ∷ text) word
  kept : (c : List ℕ) (text : List (List ℕ)) (word : List ℕ) → is_one is_escapable c ≡ false → is_byte newline c ≡ false → Doubled l (c ∷ text) word → Doubled l ((backslash ∷ []) ∷ c ∷ text) (backslash ∷ word)

-- In dollar-single-quotes (2.2.4) a character but a single quote and a backslash means itself; a backslash begins an escape.
pub data Dollared : List (List ℕ) → List ℕ → Type 0 where
  nothing : Dollared [] []
  itself : (c : List ℕ) (text : List (List ℕ)) (word : List ℕ) → is_byte single_quote c ≡ false → is_byte backslash c ≡ false → Dollared text word → Dollared (c ∷ text) (c ++ word)
  escape_of : (letters : List ℕ) (b : ℕ) (text : List (List ℕ)) (word : List ℕ) → escape_meaning letters ≡ Some b → Dollared text word → Dollared ((backslash ∷ []) ∷ (single_bytes letters ++ text)) (b ∷ word)

-- a word ends before these: at the end, or before a blank
abbrev pub Ends : List (List ℕ) → Type 0
Ends [] = Unit {0}
Ends (c ∷ cs) = is_one is_blank c ≡ true

-- From here, first in a word or not, the characters are read as this word, or the rest of one, up to `after`.
pub data Reads (l : Language) : Bool → List (List ℕ) → List ℕ → List (List ℕ) → Type 0 where
  ends : (first : Bool) (after : List (List ℕ)) → Ends after → Reads l first after [] after
  bare : (first : Bool) (c : List ℕ) (text : List (List ℕ)) (word : List ℕ) (after : List (List ℕ)) → IsBare l first c text → Reads l false text word after → Reads l first (c ∷ text) (c ++ word) after
  escaped : (first : Bool) (c : List ℕ) (text : List (List ℕ)) (word : List ℕ) (after : List (List ℕ)) → is_byte newline c ≡ false → Reads l false text word after → Reads l first ((backslash ∷ []) ∷ c ∷ text) (c ++ word) after
  continued : (first : Bool) (text : List (List ℕ)) (word : List ℕ) (after : List (List ℕ)) → Reads l first text word after → Reads l first ((backslash ∷ []) ∷ (newline ∷ []) ∷ text) word after
  single : (first : Bool) (quoted text : List (List ℕ)) (word : List ℕ) (after : List (List ℕ)) → HasNoQuote quoted → Reads l false text word after → Reads l first ((single_quote ∷ []) ∷ (quoted ++ (single_quote ∷ []) ∷ text)) (joined quoted ++ word) after
  double : (first : Bool) (quoted text : List (List ℕ)) (meant word : List ℕ) (after : List (List ℕ)) → Doubled l quoted meant → Reads l false text word after → Reads l first ((double_quote ∷ []) ∷ (quoted ++ (double_quote ∷ []) ∷ text)) (meant ++ word) after
  dollared : (first : Bool) (opening quoted text : List (List ℕ)) (meant word : List ℕ) (after : List (List ℕ)) → l.dollar_quotes ≡ true → IsOpening opening → Dollared quoted meant → Reads l false text word after
      → Reads l first ((dollar ∷ []) ∷ (opening ++ (quoted ++ (single_quote ∷ []) ∷ text))) (meant ++ word) after

-- between words: blanks, and newlines after a backslash, by which lines are joined before words are separated (2.2.1)
pub data IsGap : List (List ℕ) → Type 0 where
  no_gap : IsGap []
  blank : (c : List ℕ) (gap : List (List ℕ)) → is_one is_blank c ≡ true → IsGap gap → IsGap (c ∷ gap)
  line_joined : (gap : List (List ℕ)) → IsGap gap → IsGap ((backslash ∷ []) ∷ (newline ∷ []) ∷ gap)

-- a word begins here: there is text, and it begins with nothing of a gap
pub record Begins (cs : List (List ℕ)) : Type 0 where
  pub some : cs ≢ []
  pub no_blank : (c : List ℕ) (rest : List (List ℕ)) → cs ≡ c ∷ rest → is_one is_blank c ≡ false
  pub no_join : (rest : List (List ℕ)) → cs ≢ (backslash ∷ []) ∷ (newline ∷ []) ∷ rest

-- after a gap the line begins with this word, and these come after it
pub record IsNext (l : Language) (line : List (List ℕ)) (word : List ℕ) (rest : List (List ℕ)) : Type 0 where
  pub gap : List (List ℕ)
  pub text : List (List ℕ)
  pub parts : line ≡ gap ++ text
  pub is_gap : IsGap gap
  pub begins : Begins text
  pub reads : Reads l true text word rest

-- the characters of a line are read as these words
abbrev pub AreWords : Language → List (List ℕ) → List (List ℕ) → Type 0
AreWords l line [] = IsGap line
AreWords l line (word ∷ words) = (rest : List (List ℕ)) × IsNext l line word rest × AreWords l rest words

-- a word ends before these bytes, in each charset
abbrev pub EndsBefore : List ℕ → Type 0
EndsBefore [] = Unit {0}
EndsBefore (b ∷ bs) = is_blank b ≡ true

-- a word begins with these characters and is read as this one, up to the characters of what comes after it
pub record IsReadAs (l : Language) (cs : List (List ℕ)) (word after : List ℕ) : Type 0 where
  pub rest : List (List ℕ)
  pub rest_are : AreCharacters after rest
  pub begins : Begins cs
  pub reads : Reads l true cs word rest

-- In each charset that keeps those bytes, and whatever ends the word, the characters of the text are read as this word.
abbrev pub IsCharacterText : Language → List ℕ → List ℕ → Type 0
IsCharacterText l text word = (after : List ℕ) → (cs : List (List ℕ)) → EndsBefore after → AreCharacters (text ++ after) cs → IsReadAs l cs word after

-- in each such charset the characters of the line are read as these words
abbrev pub IsCharacterLine : Language → List ℕ → List (List ℕ) → Type 0
IsCharacterLine l line words = (cs : List (List ℕ)) → AreCharacters line cs → AreWords l cs words
