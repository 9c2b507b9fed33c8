use Rattle.os_quote.proofs.Common.{◌≢◌, refl, subst}
use Rattle.os_quote.specs.declared.form.Form.TheVariants.{Text, Line}
use Rattle.std.proofs.Common.{MatchResult}
use Rattle.os_quote.specs.{Escape.IsQuoteFaultBy, Unescaped.IsUnescapedBy, declared.error.QuoteError.TheVariants.Memory}
use Rattle.os_quote.proofs.lemmas.{Endings.chunks_before_ending, PlainBytes.plain_is_text, PlainBytes.plain_unchanged, Texts.shown_unchanged, Unescaping.own_unescaped, Unescaping.with_both}
use Rattle.os_quote.proofs.read_buffer.write_bytes_by.Goals as goal

pub returns-then-are_own-clause-read : goal.returns-then-are_own-clause-read
returns-then-are_own-clause-read g c =
    let P = g.E.Platform in
    let laws = g.met.E.Platform.laws in
    let own = c.are_own.ensures c.if-are_own.true in
    own_unescaped c.args.form P.well_formed P.units P.part_units g.met.E.Platform.parts (chunks_before_ending g.met.E.Platform.occurrence laws.cut_prefix laws.cut_suffix c.args.form) _ _ _ _ laws.text (plain_is_text _ own.0) (plain_unchanged c.args.form _ own.0) own.1 refl c.push_truncated.ensures.written

pub returns-then-are_own-clause-utf8 : goal.returns-then-are_own-clause-utf8
returns-then-are_own-clause-utf8 g c = plain_is_text c.args.escape.now (c.are_own.ensures c.if-are_own.true).0

pub returns-in-Text-clause-read : goal.returns-in-Text-clause-read
returns-in-Text-clause-read g c =
    let P = g.E.Platform in
    let laws = g.met.E.Platform.laws in
    let escape = c.args.escape.now in
    let is_text = c.is_utf8.ensures.0 c.if-not-is_utf8.false in
    rw c.in-Text.is (own_unescaped Text P.well_formed P.units P.part_units g.met.E.Platform.parts (chunks_before_ending g.met.E.Platform.occurrence laws.cut_prefix laws.cut_suffix Text) _ _ _ _ laws.text is_text (shown_unchanged escape is_text c.in_default.ensures) refl refl c.push_truncated-in-Text.ensures.written)

pub returns-in-Line-clause-read : goal.returns-in-Line-clause-read
returns-in-Line-clause-read g c =
    let P = g.E.Platform in
    let read = c.write_unescaped_line.result in
    rw c.in-Line.is (subst (λ x. MatchResult read (λ count. IsUnescapedBy Line P.well_formed P.units x c.args.buffer.now c.write_unescaped_line.new.buffer count) (λ fault. IsQuoteFaultBy Line P.well_formed P.units x fault × (fault ≢ Memory))) c.from_utf8_unchecked-text.ensures
    (with_both _ _ _ read c.write_unescaped_line.ensures.string c.write_unescaped_line.ensures.fault c.write_unescaped_line.ensures.never_memory))
