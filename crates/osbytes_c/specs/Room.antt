-- How much room lists need. Only private contracts name these.
use Rattle.std.specs.Prelude.{◌+◌, ℕ, List, [], ◌∷◌, length, Result, Ok, Err}
use Rattle.os_command_line.specs.declared.shell.fault.WordsFault.{WordsFault}

-- words with a 0 after each, up to a fault
abbrev pub words_room : List (Result (List ℕ) WordsFault) → ℕ
words_room [] = 0
words_room (Ok word ∷ items) = (length word + 1) + words_room items
words_room (Err fault ∷ items) = 0

-- arguments with a 0 after each
abbrev pub arguments_room : List (List ℕ) → ℕ
arguments_room [] = 0
arguments_room (argument ∷ arguments) = (length argument + 1) + arguments_room arguments
