-- Lines of a shell and of Windows, read: words and arguments one after the other.
use Rattle.std.specs.Prelude.{◌≡◌, ℕ, zero, suc, true, false, List, [], ◌∷◌, ◌++◌, map, Ok, Err}
use Rattle.std.specs.List.{flat_map}
use Rattle.os_command_line.specs.Shell.{AreWords, IsRead, language}
use Rattle.os_command_line.specs.Windows.{IsCommandLine}
use Rattle.os_command_line.specs.declared.shell.fault.FaultKind.{FaultKind}
use Rattle.os_command_line.specs.declared.shell.fault.FaultKind.TheVariants.{UnclosedSingle, UnclosedDouble, UnclosedDollar, TrailingBackslash, Special, UnknownEscape}
use Rattle.os_command_line.specs.declared.shell.fault.WordsFault.{WordsFault}
use Rattle.os_command_line.specs.declared.shell.language.Language.{Language}
use Rattle.osbytes_c.specs.declared.lines.shell_words.LineFault.{LineFault}

-- a 0 after each
abbrev pub ended : List (List ℕ) → List ℕ
ended words = flat_map (λ word. word ++ 0 ∷ []) words

-- the language with these options: 1 has special characters mean themselves, 2 has dollar-single-quotes, and 3 both
abbrev pub language_of : ℕ → Language
language_of zero = language true false
language_of (suc zero) = language false false
language_of (suc (suc zero)) = language true true
language_of (suc (suc (suc n))) = language false true

-- the words of the line, with a 0 after each
abbrev pub AreEndedWords : Language → List ℕ → List ℕ → Type 0
AreEndedWords l line list = (words : List (List ℕ)) × (AreWords l line words × (list ≡ ended words))

-- the number of what begins at the index of a fault
abbrev pub kind_number : FaultKind → ℕ
kind_number UnclosedSingle = 1
kind_number UnclosedDouble = 2
kind_number UnclosedDollar = 3
kind_number TrailingBackslash = 4
kind_number Special = 5
kind_number UnknownEscape = 6

-- the report is the fault of the line, which comes after some words
pub record IsFaultOf (l : Language) (line : List ℕ) (report : LineFault) : Type 0 where
  pub words : List (List ℕ)
  pub fault : WordsFault
  pub read : IsRead l line (map Ok words ++ Err fault ∷ [])
  pub kind : report.kind ≡ kind_number fault.kind
  pub index : report.index ≡ fault.index

-- the program's name and the arguments of the line, with a 0 after each
abbrev pub AreEndedArguments : List ℕ → List ℕ → Type 0
AreEndedArguments line list = (name : List ℕ) × ((arguments : List (List ℕ)) × (IsCommandLine line name arguments × (list ≡ ended (name ∷ arguments))))
