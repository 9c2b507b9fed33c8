use Rattle.std.proofs.Common.{sym, arith}
use Rattle.osbytes_c.proofs.lemmas.Symbols.{ascii_step}
use Rattle.osbytes_c.proofs.walks.symbols_fill.ascii_after.Goals as goal

pub returns-then-byte-lt128 : goal.returns-then-byte-lt128
returns-then-byte-lt128 c = λ platform. ascii_step platform c.args.bytes.now c.args.at c.from.result c.requires (sym c.from.ensures) (omega (arith, c.from.ensures, c.if-byte-lt128.true))
