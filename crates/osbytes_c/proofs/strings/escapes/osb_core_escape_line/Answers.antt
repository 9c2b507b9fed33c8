use Rattle.std.proofs.Common.{sym, subst}
use Rattle.os_quote.specs.Escape.{IsLineEscape}
use Rattle.osbytes_c.specs.Answers.{IsWritten}
use Rattle.osbytes_c.specs.Platforms.{units_on}
use Rattle.osbytes_c.proofs.strings.escapes.osb_core_escape_line.Goals as goal

pub returns-in-0-clause-written : goal.returns-in-0-clause-written
returns-in-0-clause-written c =
    subst (λ p. IsWritten c.escape_line.result (IsLineEscape (units_on p) c.args.bytes.now) c.args.out.now c.escape_line.new.out c.escape_line.new.count) (sym c.in-0.is)
    (subst (λ s. IsWritten c.escape_line.result (IsLineEscape (units_on 0) s) c.args.out.now c.escape_line.new.out c.escape_line.new.count) c.unix-string.ensures c.escape_line.ensures.written)
