-- The options of the program.
use Rattle.std.specs.Prelude.{◌≡◌, ℕ, Bool, false, List, codes}
use Rattle.os_args.specs.Word.{Kind, Long, LongBytes, Short, ShortBytes, Value}
use Rattle.paths_commands.specs.declared.option.PathsOption.{PathsOption}
use Rattle.paths_commands.specs.declared.option.PathsOption.TheVariants.{Help, Version, Checked, KeepSeparator, KeepGoing, Lines, Unterminated}

-- the name of the option after `--`
abbrev pub name_of : PathsOption → List ℕ
name_of Help = codes "help"
name_of Version = codes "version"
name_of Checked = codes "checked"
name_of KeepSeparator = codes "keep-separator"
name_of KeepGoing = codes "keep-going"
name_of Lines = codes "lines"
name_of Unterminated = codes "unterminated"

-- this character after `-` is the option, too: h and V
abbrev pub IsFlagOf : PathsOption → ℕ → Type 0
IsFlagOf Help c = c ≡ 0x68
IsFlagOf Version c = c ≡ 0x56
IsFlagOf Checked c = ⊥
IsFlagOf KeepSeparator c = ⊥
IsFlagOf KeepGoing c = ⊥
IsFlagOf Lines c = ⊥
IsFlagOf Unterminated c = ⊥

-- the argument is the option
abbrev pub spelled : PathsOption → Kind → Type 0
spelled option (Long name) = name ≡ name_of option
spelled option (LongBytes name) = ⊥
spelled option (Short c) = IsFlagOf option c
spelled option (ShortBytes rest) = ⊥
spelled option (Value value) = ⊥

-- no value follows an option
abbrev pub has_value : PathsOption → Bool
has_value option = false
