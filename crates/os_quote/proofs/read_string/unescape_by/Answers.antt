use Rattle.os_quote.proofs.Common.{[], sym, ◌∙◌, subst, arith, IsUtf8, shown_by, IsEscapeBy, IsUtf8-nil}
use Rattle.os_quote.proofs.lemmas.{Texts.unchanged_text, Escapes.own_escape, Unescaping.unescaped_whole}
use Rattle.std.proofs.lemmas.Result.{err_from_is_err_and}
use Rattle.os_quote.specs.Escape.{IsQuoteFaultBy}
use Rattle.os_quote.proofs.read_string.unescape_by.Goals as goal

pub returns-then-is_own-clause-string : goal.returns-then-is_own-clause-string
returns-then-is_own-clause-string g c =
    let P = g.E.Platform in
    let text = c.args.text.now in
    let is = c.is_own.ensures.own c.if-is_own.true in
    let own = own_escape c.args.form P.well_formed P.units P.part_units g.met.E.Platform.parts text (g.met.E.Platform.laws.text [] IsUtf8-nil) c.utf8.text (unchanged_text (shown_by c.args.form) text c.utf8.text is.0) is.1 in
    subst (λ x. IsEscapeBy c.args.form P.units x text) (sym (c.in_ok-to_owned.ensures.bytes ∙ c.new.ensures)) own

pub returns-in_err-encoded-clause-empty : goal.returns-in_err-encoded-clause-empty
returns-in_err-encoded-clause-empty g c = λ e. absurd (let some = c.is_own.ensures.some c.if-is_own.false in omega (arith, e, some))

pub returns-in_err-count-clause-empty : goal.returns-in_err-count-clause-empty
returns-in_err-count-clause-empty g c = λ e. absurd (let some = c.is_own.ensures.some c.if-is_own.false in omega (arith, e, some))

pub returns-in_err-count-clause-fault : goal.returns-in_err-count-clause-fault
returns-in_err-count-clause-fault g c =
    let P = g.E.Platform in
    let is_text = subst IsUtf8 (sym c.as_bytes.ensures.value) c.utf8.text in
    let fault = subst (λ x. IsQuoteFaultBy c.args.form P.well_formed P.units x c.in_err-count.field-0.0) c.as_bytes.ensures.value (c.in_err-count.ensures.fault is_text) in
    let e = err_from_is_err_and c.from_residual-in_err-count.result c.from_residual-in_err-count.ensures.1 in
    rw e.1 (subst (IsQuoteFaultBy c.args.form P.well_formed P.units c.args.text.now) (sym e.2) fault)

pub from_encoded_bytes_unchecked-requires : goal.from_encoded_bytes_unchecked-requires
from_encoded_bytes_unchecked-requires g c = (unescaped_whole _ c.in_ok-count.ensures.string c.utf8.text c.as_bytes.ensures.value (omega (arith, c.as_mut_slice.ensures.len, c.in_ok-encoded.ensures.len)) c.as_mut_slice.ensures.len c.truncate.ensures.items).0

pub returns-clause-string : goal.returns-clause-string
returns-clause-string g c =
    let whole = unescaped_whole _ c.in_ok-count.ensures.string c.utf8.text c.as_bytes.ensures.value (omega (arith, c.as_mut_slice.ensures.len, c.in_ok-encoded.ensures.len)) c.as_mut_slice.ensures.len c.truncate.ensures.items in
    rw c.from_encoded_bytes_unchecked.ensures whole.1
