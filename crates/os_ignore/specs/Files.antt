-- The lines of an ignore file (gitignore, and git's dir.c where it says more).
use Rattle.std.specs.Prelude.{◌≡◌, ◌⊎◌, ◌+◌, ℕ, nat_eq, ◌&&◌, cond, Bool, false, List, [], ◌∷◌, ◌++◌, Option, Some, None, Result, Ok, Err}
use Rattle.std.specs.List.{AllByRecursion, slice_get}
use Rattle.os_ignore.specs.declared.letter.Letter.{Letter}
use Rattle.os_ignore.specs.declared.line.Line.{Line}
use Rattle.os_ignore.specs.declared.reason.NoPattern.{NoPattern}
use Rattle.os_ignore.specs.Components.{pieces}
use Rattle.os_ignore.specs.Lines.{IsLine, IsLineOf, SaysNothing, LettersSayNothing}
use Rattle.wildcards.specs.Items.{ReadsLists}

-- the file without the byte order mark that it may begin with
abbrev pub without_mark : List ℕ → List ℕ
without_mark [] = []
without_mark (a ∷ []) = a ∷ []
without_mark (a ∷ b ∷ []) = a ∷ b ∷ []
without_mark (a ∷ b ∷ c ∷ rest) = cond ((nat_eq a 0xEF && nat_eq b 0xBB) && nat_eq c 0xBF) rest (a ∷ b ∷ c ∷ rest)

-- the line without the carriage return at its end, if it has one
abbrev pub IsWithoutReturn : List ℕ → List ℕ → Type 0
IsWithoutReturn line rest = (line ≡ rest ++ 0xD ∷ []) ⊎ ((rest ≡ line) × ((front : List ℕ) → line ≡ front ++ 0xD ∷ [] → ⊥))

-- the part of a line, up to its line feed, that is read: without a carriage return at the end, and then up to the first NUL
pub record IsLineText (line text : List ℕ) : Type 0 where
  pub whole : List ℕ
  pub without_return : IsWithoutReturn line whole
  pub more : List (List ℕ)
  pub first : pieces 0x0 whole ≡ text ∷ more

-- the part that is read of the file's line of this number, from 1
pub record IsTextAt (file : List ℕ) (number : ℕ) (text : List ℕ) : Type 0 where
  pub before : ℕ
  pub number_is : number ≡ before + 1
  pub line : List ℕ
  pub line_is : slice_get (pieces 0xA (without_mark file)) before ≡ Some line
  pub read : IsLineText line text

-- the file has no line of this number
abbrev pub NoTextAt : List ℕ → ℕ → Type 0
NoTextAt file number = (before : ℕ) → number ≡ before + 1 → slice_get (pieces 0xA (without_mark file)) before ≡ None

module _ {A : Type 0} where
  -- the file has a line of this line's number
  abbrev pub IsThere : List ℕ → Line A → Type 0
  IsThere file line = NoTextAt file line.number → ⊥

  -- so for each of the lines: its negation is refuted
  abbrev pub AreThere : List ℕ → List (Line A) → Type 0
  AreThere file lines = (AllByRecursion (IsThere file) lines → ⊥) → ⊥

  -- the line, if there is one
  abbrev pub list_of : Result (Line A) NoPattern → List (Line A)
  list_of (Err reason) = []
  list_of (Ok line) = line ∷ []

module _ {A : Type 0} (folds : Bool) where
  -- the text is this line, of this number, or is no pattern for this reason
  abbrev pub SaysLine : ℕ → List ℕ → Result (Line A) NoPattern → Type 0
  SaysLine number text (Err reason) = SaysNothing folds A text reason
  SaysLine number text (Ok line) = (line.number ≡ number) × IsLine folds text line

  -- likewise of the letters
  abbrev pub LettersSayLine : ℕ → List Letter → Result (Line A) NoPattern → Type 0
  LettersSayLine number letters (Err reason) = LettersSayNothing folds A letters reason
  LettersSayLine number letters (Ok line) = (line.number ≡ number) × IsLineOf folds letters line

  -- a line is read, and what it says
  pub record IsNextLine (number : ℕ) (line : List ℕ) (lines : List (List ℕ)) (said : List (Line A)) (left : ℕ × List (List ℕ)) : Type 0 where
    pub text : List ℕ
    pub read : IsLineText line text
    pub says : Result (Line A) NoPattern
    pub text_says : SaysLine number text says
    pub said_is : said ≡ list_of says
    pub left_is : left ≡ (number + 1, lines)

  -- the lines, one after the other, by their numbers
  abbrev pub NextLine : ℕ → List (List ℕ) → List (Line A) → ℕ × List (List ℕ) → Type 0
  NextLine number [] said left = ⊥
  NextLine number (line ∷ lines) said left = IsNextLine number line lines said left

  abbrev pub IsLineRead : ℕ × List (List ℕ) → List (Line A) → ℕ × List (List ℕ) → Type 0
  IsLineRead from said left = NextLine from.0 from.1 said left

  -- the lines of the file that are patterns: lines end at line feeds, and are numbered from 1
  pub record AreLines (file : List ℕ) (lines : List (Line A)) : Type 0 where
    pub count : ℕ
    pub read : ReadsLists IsLineRead (1, pieces 0xA (without_mark file)) lines (count, [])

-- why what was read is no pattern
abbrev pub reason_of : {A : Type 0} → Result (Line A) NoPattern → Option NoPattern
reason_of (Err reason) = Some reason
reason_of (Ok line) = None

module _ (A : Type 0) where
  -- why the line is no pattern, and no reason where it is one
  abbrev pub HasReason : List ℕ → Option NoPattern → Type 0
  HasReason line None = (text : List ℕ) × IsLineText line text × (pattern : Line A) × IsLine false text pattern
  HasReason line (Some reason) = (text : List ℕ) × IsLineText line text × SaysNothing false A text reason
