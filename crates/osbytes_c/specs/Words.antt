-- The word of a name in a shell.
use Rattle.std.specs.Prelude.{◌≡◌, List, ℕ}
use Rattle.os_command_line.specs.Fish.{fish_word, IsFishText}
use Rattle.os_command_line.specs.ReservedWords.{first_word}
use Rattle.os_command_line.specs.ShellWriting.{quoted_word, IsLineWord}
use Rattle.osbytes_c.specs.declared.lines.shell.Shell.{Shell}
use Rattle.osbytes_c.specs.declared.lines.shell.Shell.TheVariants.{Posix, First, Line, Fish}

abbrev pub IsWordOf : Shell → List ℕ → List ℕ → Type 0
IsWordOf Posix name word = word ≡ quoted_word name
IsWordOf First name word = word ≡ first_word name
IsWordOf Line name word = IsLineWord name word
IsWordOf Fish name word = IsFishText word name × (word ≡ fish_word name)
