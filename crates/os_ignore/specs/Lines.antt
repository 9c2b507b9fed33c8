-- How a line is written (gitignore, "PATTERN FORMAT").
use Rattle.std.specs.Prelude.{◌≡◌, ℕ, Bool, true, false, nat_eq, ◌||◌, cond, List, [], ◌∷◌, ◌++◌, Option, Some, None}
use Rattle.std.specs.List.{AllByRecursion}
use denote.Ref.{Bor}
use Rattle.os_ignore.specs.declared.letter.Letter.{Letter}
use Rattle.os_ignore.specs.declared.line.Line.{Line}
use Rattle.os_ignore.specs.declared.reason.NoPattern.{NoPattern}
use Rattle.os_ignore.specs.declared.reason.NoPattern.TheVariants.{Comment, Empty, Backslash, QuotedSlash, Class}
use Rattle.os_ignore.specs.Letters.{is_plain, is_simple, own_byte, AreLetters, IsDangling}
use Rattle.os_ignore.specs.PatternText.{IsPattern, IsBrokenPattern}

-- the text begins with a `#`, so the line is a comment
abbrev pub is_comment : List ℕ → Bool
is_comment [] = false
is_comment (b ∷ bs) = nat_eq b 0x23

-- the letters without the blanks at their end that aren't quoted
pub record IsTrimmed (letters trimmed : List Letter) : Type 0 where
  pub blanks : List Letter
  pub joined : letters ≡ trimmed ++ blanks
  pub blank : AllByRecursion (λ l. is_plain l 0x20 ≡ true) blanks
  pub no_more : (front : List Letter) (l : Letter) → trimmed ≡ front ++ l ∷ [] → is_plain l 0x20 ≡ false

-- whether the letters begin with the byte, not quoted, and what comes after it
abbrev pub strip_first : ℕ → List Letter → Bool × List Letter
strip_first b [] = (false, [])
strip_first b (l ∷ ls) = cond (is_plain l b) (true, ls) (false, l ∷ ls)

-- the letters end with a slash that is quoted
abbrev pub EndsQuoted : List Letter → Type 0
EndsQuoted letters = (front : List Letter) × (letters ≡ front ++ record { byte = 0x2F; quoted = true } ∷ [])

-- whether the letters end with a slash, and what comes before it
abbrev pub IsStripped : List Letter → Bool → List Letter → Type 0
IsStripped letters true rest = letters ≡ rest ++ record { byte = 0x2F; quoted = false } ∷ []
IsStripped letters false rest = (rest ≡ letters) × ((front : List Letter) (l : Letter) → letters ≡ front ++ l ∷ [] → nat_eq l.byte 0x2F ≡ false)

abbrev pub StripsSlash : List Letter → Option (Bool × Bor (List Letter)) → Type 0
StripsSlash letters None = EndsQuoted letters
StripsSlash letters (Some p) = IsStripped letters p.0 p.1.now

-- one of the letters is a slash, quoted or not
abbrev pub has_slash : List Letter → Bool
has_slash [] = false
has_slash (l ∷ ls) = nat_eq l.byte 0x2F || has_slash ls

-- the bytes before the first letter that is quoted or a wildcard, and what comes after them
abbrev pub literal_prefix : Bool → List Letter → List ℕ
literal_prefix folds [] = []
literal_prefix folds (l ∷ ls) = cond (is_simple l) (own_byte folds l ∷ literal_prefix folds ls) []

abbrev pub after_literal : List Letter → List Letter
after_literal [] = []
after_literal (l ∷ ls) = cond (is_simple l) (after_literal ls) (l ∷ ls)

-- the letters, but for blanks, `!` and a `/` at the end
pub record IsBody (letters : List Letter) (takes_in directories : Bool) (body : List Letter) : Type 0 where
  pub trimmed : List Letter
  pub without_blanks : IsTrimmed letters trimmed
  pub taken : takes_in ≡ (strip_first 0x21 trimmed).0
  pub stripped : IsStripped (strip_first 0x21 trimmed).1 directories body

module _ {A : Type 0} (folds : Bool) where
  -- the line that the letters are, in a file that folds or doesn't
  pub record IsLineOf (letters : List Letter) (line : Line A) : Type 0 where
    pub body : List Letter
    pub read : IsBody letters line.takes_in line.directories body
    pub folds_is : line.folds ≡ folds
    pub anchored : line.anchored ≡ has_slash body
    pub some : (strip_first 0x2F body).1 ≡ [] → ⊥
    pub literal : line.literal.items ≡ literal_prefix folds (strip_first 0x2F body).1
    pub pattern : IsPattern folds (after_literal (strip_first 0x2F body).1) line.pattern.items

  -- the line that the text is
  pub record IsLine (text : List ℕ) (line : Line A) : Type 0 where
    pub no_comment : is_comment text ≡ false
    pub letters : List Letter
    pub read : AreLetters text letters
    pub line_of : IsLineOf letters line

-- why the letters are no pattern: they end with a slash that is quoted, nothing is left of them, or a class in them isn't one
pub data LettersSayNothing (folds : Bool) (A : Type 0) (letters : List Letter) (reason : NoPattern) : Type 0 where
  quoted_slash : {trimmed : List Letter} → IsTrimmed letters trimmed → EndsQuoted (strip_first 0x21 trimmed).1 → reason ≡ QuotedSlash → LettersSayNothing folds A letters reason
  empty : {takes_in directories : Bool} {body : List Letter} → IsBody letters takes_in directories body → (strip_first 0x2F body).1 ≡ [] → reason ≡ Empty → LettersSayNothing folds A letters reason
  broken : {takes_in directories : Bool} {body : List Letter} → IsBody letters takes_in directories body → IsBrokenPattern folds A (after_literal (strip_first 0x2F body).1) → reason ≡ Class → LettersSayNothing folds A letters reason

-- why the text is no pattern: it is a comment, its last backslash quotes nothing, or its letters are no pattern
pub data SaysNothing (folds : Bool) (A : Type 0) (text : List ℕ) (reason : NoPattern) : Type 0 where
  comment : is_comment text ≡ true → reason ≡ Comment → SaysNothing folds A text reason
  dangling : is_comment text ≡ false → IsDangling text → reason ≡ Backslash → SaysNothing folds A text reason
  letters : {letters : List Letter} → is_comment text ≡ false → AreLetters text letters → LettersSayNothing folds A letters reason → SaysNothing folds A text reason
