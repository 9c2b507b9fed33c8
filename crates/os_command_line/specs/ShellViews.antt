-- What contracts say of words and of names that are printed as words.
use Rattle.std.specs.Prelude.{ℕ, Bool, true, false, Result, Ok, Err, List}
use Rattle.platform_str.specs.Strings.{bytes}
use Rattle.os_command_line.specs.declared.shell.fault.WordsFault.{WordsFault}
use Rattle.os_command_line.specs.declared.shell.language.Specials.{Specials}
use Rattle.os_command_line.specs.declared.shell.language.Specials.TheVariants.{Refused, Kept}
use Rattle.os_command_line.specs.declared.shell.display.Quoted.{Quoted}
use Rattle.os_command_line.specs.declared.shell.word.Word.{Word}
use Rattle.os_command_line.specs.ShellReader.{raw_bytes}
use Rattle.os_command_line.specs.ShellSteps.{form_text}

-- whether special characters are refused
abbrev pub is_refused : Specials → Bool
is_refused Refused = true
is_refused Kept = false

-- the bytes of a word
abbrev pub word_bytes : Word → List ℕ
word_bytes w = raw_bytes w.language w.is_bare w.raw.now

-- what an item of a line is: the bytes of a word, or a fault
abbrev pub item_bytes : Result Word WordsFault → Result (List ℕ) WordsFault
item_bytes (Ok word) = Ok (word_bytes word)
item_bytes (Err fault) = Err fault

-- the text that is printed
abbrev pub quoted_text : Quoted → List ℕ
quoted_text q = form_text q.form (bytes q.name)
