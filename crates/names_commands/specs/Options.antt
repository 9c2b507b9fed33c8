-- The options of the program.
use Rattle.std.specs.Prelude.{◌≡◌, ℕ, Bool, true, false, List, codes}
use Rattle.os_args.specs.Word.{Kind, Long, LongBytes, Short, ShortBytes, Value}
use Rattle.names_commands.specs.declared.option.NamesOption.{NamesOption}
use Rattle.names_commands.specs.declared.option.NamesOption.TheVariants.{Help, Version, Max, Sh, ShLine, Lines, Unterminated, Empty, Glob, Name, Ignore, Invert, IgnoreCase, Exclude, GlobsFrom, ExitStatus}

-- the name of the option after `--`
abbrev pub name_of : NamesOption → List ℕ
name_of Help = codes "help"
name_of Version = codes "version"
name_of Max = codes "max"
name_of Sh = codes "sh"
name_of ShLine = codes "sh-line"
name_of Lines = codes "lines"
name_of Unterminated = codes "unterminated"
name_of Empty = codes "empty"
name_of Glob = codes "glob"
name_of Name = codes "name"
name_of Ignore = codes "ignore"
name_of Invert = codes "invert"
name_of IgnoreCase = codes "ignore-case"
name_of Exclude = codes "exclude"
name_of GlobsFrom = codes "globs-from"
name_of ExitStatus = codes "exit-status"

-- the option as it is written
abbrev pub word_of : NamesOption → List ℕ
word_of Help = codes "--help"
word_of Version = codes "--version"
word_of Max = codes "--max"
word_of Sh = codes "--sh"
word_of ShLine = codes "--sh-line"
word_of Lines = codes "--lines"
word_of Unterminated = codes "--unterminated"
word_of Empty = codes "--empty"
word_of Glob = codes "--glob"
word_of Name = codes "--name"
word_of Ignore = codes "--ignore"
word_of Invert = codes "--invert"
word_of IgnoreCase = codes "--ignore-case"
word_of Exclude = codes "--exclude"
word_of GlobsFrom = codes "--globs-from"
word_of ExitStatus = codes "--exit-status"

-- this character after `-` is the option, too: h, V, v and i
abbrev pub IsFlagOf : NamesOption → ℕ → Type 0
IsFlagOf Help c = c ≡ 0x68
IsFlagOf Version c = c ≡ 0x56
IsFlagOf Max c = ⊥
IsFlagOf Sh c = ⊥
IsFlagOf ShLine c = ⊥
IsFlagOf Lines c = ⊥
IsFlagOf Unterminated c = ⊥
IsFlagOf Empty c = ⊥
IsFlagOf Glob c = ⊥
IsFlagOf Name c = ⊥
IsFlagOf Ignore c = ⊥
IsFlagOf Invert c = c ≡ 0x76
IsFlagOf IgnoreCase c = c ≡ 0x69
IsFlagOf Exclude c = ⊥
IsFlagOf GlobsFrom c = ⊥
IsFlagOf ExitStatus c = ⊥

-- the argument is the option
abbrev pub spelled : NamesOption → Kind → Type 0
spelled option (Long name) = name ≡ name_of option
spelled option (LongBytes name) = ⊥
spelled option (Short c) = IsFlagOf option c
spelled option (ShortBytes rest) = ⊥
spelled option (Value value) = ⊥

-- whether a value follows it
abbrev pub has_value : NamesOption → Bool
has_value Help = false
has_value Version = false
has_value Max = true
has_value Sh = false
has_value ShLine = false
has_value Lines = false
has_value Unterminated = false
has_value Empty = false
has_value Glob = true
has_value Name = true
has_value Ignore = true
has_value Invert = false
has_value IgnoreCase = false
has_value Exclude = true
has_value GlobsFrom = true
has_value ExitStatus = false
