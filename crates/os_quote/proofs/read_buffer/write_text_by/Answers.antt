use Rattle.os_quote.proofs.{Common.sym, Common.subst, Common.IsUtf8, lemmas.Endings.chunks_before_ending, lemmas.Unescaping.own_unescaped}
use Rattle.std.specs.Prelude.{IfErr}
use Rattle.os_quote.specs.Escape.{IsQuoteFaultBy}
use Rattle.os_quote.proofs.read_buffer.write_text_by.Goals as goal

pub returns-then-is_own-clause-string : goal.returns-then-is_own-clause-string
returns-then-is_own-clause-string g c =
    let P = g.E.Platform in
    let laws = g.met.E.Platform.laws in
    let is = c.is_own.ensures.own c.if-is_own.true in
    own_unescaped c.args.form P.well_formed P.units P.part_units g.met.E.Platform.parts (chunks_before_ending g.met.E.Platform.occurrence laws.cut_prefix laws.cut_suffix c.args.form) _ _ _ _ laws.text c.utf8.text is.0 is.1 c.as_bytes.ensures.value c.push_truncated.ensures.written

pub returns-clause-fault : goal.returns-clause-fault
returns-clause-fault g c =
    let P = g.E.Platform in
    let is_text = subst IsUtf8 (sym c.as_bytes-2.ensures.value) c.utf8.text in
    subst (λ x. IfErr c.write_by.result (IsQuoteFaultBy c.args.form P.well_formed P.units x)) c.as_bytes-2.ensures.value (c.write_by.ensures.fault is_text)
