-- The letters of a line: its bytes, where a backslash quotes the next byte (gitignore, "PATTERN FORMAT").
use Rattle.std.specs.Prelude.{◌≡◌, ℕ, Bool, true, false, not, nat_eq, ◌&&◌, cond, List, [], ◌∷◌}
use Rattle.std.specs.Char.{to_ascii_lowercase}
use Rattle.os_ignore.specs.declared.letter.Letter.{Letter}
use Rattle.os_ignore.specs.declared.letter.Kind.{Kind}
use Rattle.os_ignore.specs.declared.letter.Kind.TheVariants.{Slash, Star, Question, Bracket, Literal}
use Rattle.wildcards.specs.Items.{Reads}

-- a byte as a file compares it. A file that folds is read without regard to case (git's core.ignorecase): it compares a capital of ASCII as its small letter
abbrev pub folded : Bool → ℕ → ℕ
folded false b = b
folded true b = to_ascii_lowercase b

-- the byte that a letter matches. A capital that is quoted stays as it is, so that it matches no byte in a file that folds
abbrev pub own_byte : Bool → Letter → ℕ
own_byte false l = l.byte
own_byte true l = cond l.quoted l.byte (to_ascii_lowercase l.byte)

-- the letter is the byte, and no backslash quotes it
abbrev pub is_plain : Letter → ℕ → Bool
is_plain l b = not l.quoted && nat_eq l.byte b

-- what a letter is in a pattern: a slash separates, quoted or not
abbrev pub kind_of : Letter → Kind
kind_of l =
    cond (nat_eq l.byte 0x2F) Slash
    (cond l.quoted Literal
    (cond (nat_eq l.byte 0x2A) Star (cond (nat_eq l.byte 0x3F) Question (cond (nat_eq l.byte 0x5B) Bracket Literal))))

-- a letter of this kind, not quoted, matches itself alone
abbrev pub matches_itself : Kind → Bool
matches_itself Slash = true
matches_itself Star = false
matches_itself Question = false
matches_itself Bracket = false
matches_itself Literal = true

-- the letter isn't quoted, and matches itself alone
abbrev pub is_simple : Letter → Bool
is_simple l = not l.quoted && matches_itself (kind_of l)

-- the text begins with a byte: after a backslash if it is quoted, and else one that is no backslash
abbrev pub BeginsWith : Bool → List ℕ → ℕ → List ℕ → Type 0
BeginsWith true text b rest = text ≡ 0x5C ∷ b ∷ rest
BeginsWith false text b rest = (text ≡ b ∷ rest) × (nat_eq b 0x5C ≡ false)

-- the text begins with the letter
abbrev pub IsLetter : List ℕ → Letter → List ℕ → Type 0
IsLetter text l rest = BeginsWith l.quoted text l.byte rest

-- the letters of the text
abbrev pub AreLetters : List ℕ → List Letter → Type 0
AreLetters text letters = Reads IsLetter text letters []

-- a backslash at the end of the text quotes nothing
abbrev pub IsDangling : List ℕ → Type 0
IsDangling text = (letters : List Letter) × Reads IsLetter text letters (0x5C ∷ [])

-- the bytes, each behind a backslash
abbrev pub escaped : List ℕ → List ℕ
escaped [] = []
escaped (b ∷ bs) = 0x5C ∷ b ∷ escaped bs
