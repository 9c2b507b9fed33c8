-- What each byte of a line is: one of a gap, of a mark, or of a word (POSIX.1-2024, Shell Command Language, 2.2). Lists are of bytes.
use Rattle.std.specs.Prelude.{◌≡◌, ℕ, true, Some, Result, Ok, Err, List, [], ◌∷◌, ◌++◌}
use Rattle.os_command_line.specs.declared.shell.fault.WordsFault.{WordsFault}
use Rattle.os_command_line.specs.Shell.{backslash, dollar, newline, is_mark, escape_meaning, IsGap, IsOpening}

-- what is no byte of a word: a quote or a backslash, `$` and what opens dollar-single-quotes after it, or a backslash and a newline
pub data IsMark : List ℕ → Type 0 where
  one : (b : ℕ) → is_mark b ≡ true → IsMark (b ∷ [])
  opens : (opening : List ℕ) → IsOpening opening → IsMark (dollar ∷ opening)
  joins : IsMark (backslash ∷ newline ∷ [])

-- The text is the bytes of the word, one after the other:
-- marks may be between them;
-- a byte is there itself;
-- or by an escape of dollar-single-quotes.
pub data IsMarked : List ℕ → List ℕ → Type 0 where
  nothing : IsMarked [] []
  mark : (marks text word : List ℕ) → IsMark marks → IsMarked text word → IsMarked (marks ++ text) word
  itself : (b : ℕ) (text word : List ℕ) → IsMarked text word → IsMarked (b ∷ text) (b ∷ word)
  escape : (letters : List ℕ) (b : ℕ) (text word : List ℕ) → escape_meaning letters ≡ Some b → IsMarked text word → IsMarked (backslash ∷ (letters ++ text)) (b ∷ word)

-- the line is a gap and the marked text of a word for each word, and a gap at the end; before a fault there is a gap too
abbrev pub AreLineParts : List ℕ → List (Result (List ℕ) WordsFault) → Type 0
AreLineParts line [] = IsGap line
AreLineParts line (Ok word ∷ items) = (gap : List ℕ) × (text : List ℕ) × (rest : List ℕ) × (line ≡ gap ++ (text ++ rest)) × IsGap gap × IsMarked text word × AreLineParts rest items
AreLineParts line (Err fault ∷ items) = (gap : List ℕ) × (text : List ℕ) × (line ≡ gap ++ text) × IsGap gap
