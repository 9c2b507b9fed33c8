-- What errors and faults print.
use Rattle.std.specs.Prelude.{ℕ, List, ◌++◌, codes, decimal}
use Rattle.os_command_line.specs.declared.shell.error.NulError.{NulError}
use Rattle.os_command_line.specs.declared.shell.error.ShellError.{ShellError}
use Rattle.os_command_line.specs.declared.shell.error.ShellError.TheVariants as shell
use Rattle.os_command_line.specs.declared.shell.fault.FaultKind.{FaultKind}
use Rattle.os_command_line.specs.declared.shell.fault.FaultKind.TheVariants as kind
use Rattle.os_command_line.specs.declared.shell.fault.WordsFault.{WordsFault}
use Rattle.os_command_line.specs.declared.shell.fish.FishError.{FishError}
use Rattle.os_command_line.specs.declared.shell.fish.FishError.TheVariants as fish
use Rattle.os_command_line.specs.declared.shell.powershell.PowerShellError.{PowerShellError}
use Rattle.os_command_line.specs.declared.shell.powershell.PowerShellError.TheVariants as powershell
use Rattle.os_command_line.specs.declared.windows.error.CommandLineError.{CommandLineError}
use Rattle.os_command_line.specs.declared.windows.error.CommandLineError.TheVariants as windows

-- what is there, and its index in bytes or in 16-bit units
abbrev pub at_byte : List ℕ → ℕ → List ℕ
at_byte what index = what ++ (codes " at byte " ++ decimal index)

abbrev pub at_unit : List ℕ → ℕ → List ℕ
at_unit what index = what ++ (codes " at unit " ++ decimal index)

-- why a name is no word
abbrev pub nul_text : NulError → List ℕ
nul_text error = at_byte (codes "NUL") error.index

abbrev pub shell_error_text : ShellError → List ℕ
shell_error_text (shell.Nul index) = at_byte (codes "NUL") index
shell_error_text shell.Memory = codes "out of memory"

abbrev pub fish_error_text : FishError → List ℕ
fish_error_text (fish.Nul index) = at_byte (codes "NUL") index
fish_error_text (fish.NotText index) = at_byte (codes "invalid UTF-8") index

abbrev pub powershell_error_text : PowerShellError → List ℕ
powershell_error_text (powershell.LoneSurrogate index) = at_byte (codes "lone surrogate") index
powershell_error_text (powershell.Nul index) = at_byte (codes "NUL") index

-- why a line isn't words
abbrev pub kind_text : FaultKind → List ℕ
kind_text kind.UnclosedSingle = codes "unclosed single quote"
kind_text kind.UnclosedDouble = codes "unclosed double quote"
kind_text kind.UnclosedDollar = codes "unclosed dollar-single-quote"
kind_text kind.TrailingBackslash = codes "trailing backslash"
kind_text kind.Special = codes "special character"
kind_text kind.UnknownEscape = codes "unknown escape"

abbrev pub fault_text : WordsFault → List ℕ
fault_text fault = at_byte (kind_text fault.kind) fault.index

-- why a command line can't be written
abbrev pub command_line_text : CommandLineError → List ℕ
command_line_text (windows.Nul index) = at_unit (codes "NUL") index
command_line_text (windows.Quote index) = at_unit (codes "quotation mark in the program's name") index
command_line_text windows.Memory = codes "out of memory"
