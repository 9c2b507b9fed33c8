use Rattle.std.proofs.Common.{◌≡◌, inr, subst}
use Rattle.os_quote.specs.Escape.{IsQuoteFault}
use Rattle.os_quote.specs.declared.error.QuoteError.TheVariants.{NotCanonical, Memory}
use Rattle.osbytes_commands.proofs.quoting.unquote.Goals as goal

other_error : NotCanonical ≡ Memory → ⊥
other_error e = cc

pub returns-in-Err-NotCanonical-clause-fault : goal.returns-in-Err-NotCanonical-clause-fault
returns-in-Err-NotCanonical-clause-fault g c =
    let P = g.E.Platform in
    let text = c.from_utf8_unchecked-text.result.now in
    let fault = subst (IsQuoteFault P.well_formed P.units text) c.in-Err-NotCanonical.field-0-is c.in-Err-NotCanonical.ensures.fault in
    inr (c.in_ok-check.ensures, other_error, subst (λ t. IsQuoteFault P.well_formed P.units t NotCanonical) c.from_utf8_unchecked-text.ensures fault)
