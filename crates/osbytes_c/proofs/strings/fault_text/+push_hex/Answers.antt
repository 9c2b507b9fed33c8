use Rattle.std.proofs.Common.{◌∷◌, ◌++◌, ◌∙◌, [], ◌-◌, ◌/◌, subst, sym, ap, append_assoc, append-nil, arith}
use Rattle.wtf8_core.specs.FaultText.{upper_hex}
use Rattle.wtf8_core.specs.Truncated.{IsTruncated}
use Rattle.osbytes_c.proofs.lemmas.Digits.{upper_hex_none, upper_hex_more}
use Rattle.osbytes_c.proofs.strings.fault_text.+push_hex.Goals as goal

pub returns-then-digits-eq0-clause-written : goal.returns-then-digits-eq0-clause-written
returns-then-digits-eq0-clause-written t c done old h =
    subst (λ t. IsTruncated t old c.args.out.now c.args.count) (sym (ap (λ x. done ++ x) (upper_hex_none c.args.digits c.args.value (omega (arith, c.if-digits-eq0.true))) ∙ append-nil done)) h

pub returns-clause-written : goal.returns-clause-written
returns-clause-written t c done old h =
    let prefix = c.push_hex-at.ensures.written done old h in
    let all = c.push_truncated.ensures.written _ old prefix in
    let digit = c.upper_hex_digit.ensures.value in
    let more = upper_hex_more c.args.digits c.args.value (omega (arith, c.if-digits-eq0.false)) in
    let first = upper_hex (c.args.digits - 1) (c.args.value / 16) in
    subst (λ t. IsTruncated t old c.push_truncated.new.buffer c.push_truncated.result) (ap (λ x. (done ++ first) ++ x ∷ []) digit ∙ append_assoc done first _ ∙ ap (λ x. done ++ x) (sym more)) all
