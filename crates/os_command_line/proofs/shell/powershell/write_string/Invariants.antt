use Rattle.std.specs.Str.{IsUtf8, chars}
use Rattle.std.specs.Str.Iter.{chars_rest}
use Rattle.os_command_line.specs.PowerShell.{powershell_string}
use Rattle.os_command_line.proofs.lemmas.PowerShell.{inner_text}
use Rattle.platform_str.proofs.lemmas.Taking.{TakesRest}
use Rattle.os_command_line.proofs.shell.powershell.write_string.Given as goal

abbrev pub invariant-loop-character : goal.invariant-loop-character
invariant-loop-character g l = IsUtf8 (chars_rest l.character-iterator) × TakesRest g.S.Sink.rules l.fn.sink l.sink (inner_text (chars_rest l.character-iterator)) (powershell_string (chars l.fn.text))
