-- How a word of a command line is read (POSIX, "Utility Conventions", 12.1 and 12.2, with the long options of getopt_long).
use Rattle.std.specs.Prelude.{◌≡◌, ◌≢◌, ◌⊎◌, ℕ, ◌≤◌, Bool, IsTrue, List, [], ◌∷◌, ◌++◌}
use Rattle.std.specs.Char.{encode_utf8, IsScalar}
use Rattle.std.specs.Str.{IsUtf8}
use Rattle.wtf8_core.specs.Covered.{StartsWithNoCharacter}
use Rattle.wtf8_core.specs.Occurrence.{IsPrefix, OccursNowhere}

-- `-`, `--`, `=` and `.`
abbrev pub dash : List ℕ
dash = 0x2D ∷ []

abbrev pub dashes : List ℕ
dashes = 0x2D ∷ 0x2D ∷ []

abbrev pub equals : List ℕ
equals = 0x3D ∷ []

abbrev pub point : List ℕ
point = 0x2E ∷ []

-- what is read, with the bytes of its text, or the number of its character
pub data Kind : Type 0 where
  Long : List ℕ → Kind
  LongBytes : List ℕ → Kind
  Short : ℕ → Kind
  ShortBytes : List ℕ → Kind
  Value : List ℕ → Kind

-- the first byte of s is an ASCII digit
pub record StartsWithDigit (s : List ℕ) : Type 0 where
  pub digit : ℕ
  pub rest : List ℕ
  pub joined : s ≡ digit ∷ rest
  pub from : 0x30 ≤ digit
  pub to : digit ≤ 0x39

-- s is a point, and then what starts with a digit
pub record StartsWithFraction (s : List ℕ) : Type 0 where
  pub fraction : List ℕ
  pub joined : s ≡ point ++ fraction
  pub digit : StartsWithDigit fraction

-- s is a dash, and then what starts as a number does
pub record StartsAsNegative (s : List ℕ) : Type 0 where
  pub number : List ℕ
  pub joined : s ≡ dash ++ number
  pub starts : StartsWithDigit number ⊎ StartsWithFraction number

-- s is a name and a rest; the first `=` ends the name
pub record IsName (s name rest : List ℕ) : Type 0 where
  pub joined : s ≡ name ++ rest
  pub no_equals : OccursNowhere equals name
  pub end : (rest ≡ []) ⊎ IsPrefix equals rest

-- s is what follows `--`: this name is read from it, and a rest is left
abbrev pub IsNamed : List ℕ → Kind → List ℕ → Type 0
IsNamed s (Long name) rest = IsUtf8 name × IsName s name rest
IsNamed s (LongBytes name) rest = ¬ (IsUtf8 name) × IsName s name rest
IsNamed s (Short c) rest = ⊥
IsNamed s (ShortBytes all) rest = ⊥
IsNamed s (Value value) rest = ⊥

-- s is what is left of flags: its first character is taken, and a rest is left. If s doesn't start with a character, all of it is taken.
abbrev pub IsFlag : List ℕ → Kind → List ℕ → Type 0
IsFlag s (Long name) rest = ⊥
IsFlag s (LongBytes name) rest = ⊥
IsFlag s (Short c) rest = IsScalar c × (s ≡ encode_utf8 c ++ rest)
IsFlag s (ShortBytes all) rest = (all ≡ s) × ((s ≢ []) × (StartsWithNoCharacter s × (rest ≡ [])))
IsFlag s (Value value) rest = ⊥

-- the word s is `--` and a name
pub record IsLongOption (s : List ℕ) (kind : Kind) (rest : List ℕ) : Type 0 where
  pub text : List ℕ
  pub joined : s ≡ dashes ++ text
  pub some : text ≢ []
  pub named : IsNamed text kind rest

-- the word s is `-` and flags; where numbers are values it doesn't start as a negative number
pub record IsShortOption (numbers : Bool) (s : List ℕ) (kind : Kind) (rest : List ℕ) : Type 0 where
  pub flags : List ℕ
  pub joined : s ≡ dash ++ flags
  pub some : flags ≢ []
  pub one_dash : ¬ (IsPrefix dash flags)
  pub no_number : IsTrue numbers → ¬ (StartsAsNegative s)
  pub flag : IsFlag flags kind rest

-- the word s is a value: it is `-`, starts with no dash, or starts as a negative number where those are values
pub record IsOperand (numbers : Bool) (s : List ℕ) (kind : Kind) (rest : List ℕ) : Type 0 where
  pub value : kind ≡ Value s
  pub whole : rest ≡ []
  pub operand : (s ≡ dash) ⊎ (¬ (IsPrefix dash s) ⊎ (IsTrue numbers × StartsAsNegative s))

-- s is a word before any `--`: this is read from it, and a rest of the word is left
abbrev pub IsReadAs : Bool → List ℕ → Kind → List ℕ → Type 0
IsReadAs numbers s kind rest = IsLongOption s kind rest ⊎ (IsShortOption numbers s kind rest ⊎ IsOperand numbers s kind rest)

-- s is what is left of an option's word: its value is the part after a leading `=`, or all of s if it doesn't start with one
abbrev pub IsValueOf : List ℕ → List ℕ → Type 0
IsValueOf s value = (s ≡ equals ++ value) ⊎ (¬ (IsPrefix equals s) × (value ≡ s))
