-- Faults of a line of words.
use Rattle.std.specs.Prelude.{ℕ}
use Rattle.os_command_line.specs.declared.shell.fault.FaultKind.TheVariants.{Special, UnclosedSingle}
use Rattle.os_command_line.specs.declared.shell.fault.WordsFault.{WordsFault}

-- a special character at this index
abbrev pub special_at : ℕ → WordsFault
special_at index = record { kind = Special; index = index }

-- an unclosed single quote at this index
abbrev pub unclosed_at : ℕ → WordsFault
unclosed_at index = record { kind = UnclosedSingle; index = index }
