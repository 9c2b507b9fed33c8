use Rattle.std.proofs.Common.{◌≢◌, subst, MatchResult}
use Rattle.os_quote.specs.Escape.{IsLineFault}
use Rattle.os_quote.specs.Unescaped.{IsLineUnescaped}
use Rattle.os_quote.specs.declared.error.QuoteError.TheVariants.{Memory}
use Rattle.osbytes_c.proofs.strings.unescapes.unescape_line.Goals as goal

pub returns-in-Err-clause-string : goal.returns-in-Err-clause-string
returns-in-Err-clause-string g c = λ is.
    let P = g.E.Platform in
    let escape = c.args.escape.now in
    let fault =
    subst (λ r. MatchResult r (IsLineUnescaped P.well_formed P.units escape c.args.out.now c.write_unescaped_line_bytes.new.buffer) (λ fault. IsLineFault P.well_formed P.units escape fault × (fault ≢ Memory))) c.in-Err.is c.in-Some.ensures.read in
    subst (IsLineFault P.well_formed P.units escape) (c.rejected.ensures.string is fault.1) fault.0
