use Rattle.std.proofs.Common.{◌≡◌, List}
use Rattle.std.specs.List.{fold}
use Rattle.platform_str.specs.PlatformWords.{itself}
use Rattle.os_str_ext.specs.Symbols.{AreSymbols}
use Rattle.os_str_ext.specs.declared.symbols.Symbol.{Symbol}
use Rattle.bench_exports.specs.Answers.{add_symbol}
use Rattle.bench_exports.proofs.symbols.port_symbols.Given as goal

-- the sum so far, and that of the symbols left, are that of all
abbrev pub invariant-loop-symbol : goal.invariant-loop-symbol
invariant-loop-symbol l = (all : List Symbol) × AreSymbols itself l.raw all × (fold add_symbol l.sum l.symbol-iterator ≡ fold add_symbol 0 all)
