use Rattle.std.proofs.Common.{[], ◌∷◌, ◌++◌}
use Rattle.platform_str.specs.PlatformWords.{itself}
use Rattle.platform_str.specs.Strings.{bytes}
use Rattle.os_str_ext.specs.Symbols.{symbols_of}
use Rattle.platform_str.proofs.lemmas.Taking.{TakesRest}
use Rattle.os_command_line.specs.ShellWriting.{dollar_text, dollar_quoted}
use Rattle.os_command_line.proofs.shell.write_word.write_dollar.Given as goal

abbrev pub invariant-loop-symbol : goal.invariant-loop-symbol
invariant-loop-symbol g l = TakesRest g.S.Sink.rules l.fn.sink l.sink (dollar_text l.high l.symbol-iterator ++ 0x27 ∷ []) (dollar_quoted (symbols_of itself (bytes l.fn.name)))
