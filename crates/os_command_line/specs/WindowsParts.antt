-- What each unit of a command line is: a blank between arguments, a mark, or one of an argument (Microsoft, "Parsing C command-line arguments"). Lists are of 16-bit units.
use Rattle.std.specs.Prelude.{◌≡◌, ◌⊎◌, ℕ, List, [], ◌∷◌, ◌++◌}
use Rattle.std.specs.List.{AllByRecursion}
use Rattle.os_command_line.specs.Windows.{backslash, quote, IsBlank}

-- The text is the units of the argument, one after the other; quotation marks and backslashes that are marks may be between them.
pub data IsMarked : List ℕ → List ℕ → Type 0 where
  nothing : IsMarked [] []
  mark : (u : ℕ) (text argument : List ℕ) → (u ≡ backslash) ⊎ (u ≡ quote) → IsMarked text argument → IsMarked (u ∷ text) argument
  itself : (u : ℕ) (text argument : List ℕ) → IsMarked text argument → IsMarked (u ∷ text) (u ∷ argument)

-- the text is blanks and the marked text of an argument for each argument, and blanks at the end
abbrev pub AreParts : List ℕ → List (List ℕ) → Type 0
AreParts line [] = AllByRecursion IsBlank line
AreParts line (argument ∷ arguments) = (blanks : List ℕ) × (text : List ℕ) × (rest : List ℕ) × (line ≡ blanks ++ (text ++ rest)) × AllByRecursion IsBlank blanks × IsMarked text argument × AreParts rest arguments

-- the line is the marked text of the program's name, and then that of arguments
pub record AreLineParts (line name : List ℕ) (arguments : List (List ℕ)) : Type 0 where
  pub text : List ℕ
  pub rest : List ℕ
  pub joined : line ≡ text ++ rest
  pub marked : IsMarked text name
  pub parts : AreParts rest arguments
