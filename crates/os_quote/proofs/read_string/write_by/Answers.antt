use Rattle.os_quote.proofs.Common.{true≢false, sym, ◌∙◌, subst, arith, IsEscapeBy}
use Rattle.os_quote.proofs.lemmas.{Endings.chunks_before_ending, Readings.escape_is_text, Readings.no_escape, Unescaping.unescaped}
use Rattle.wtf8_core.proofs.lemmas.buffers.Truncated.{whole}
use Rattle.os_quote.proofs.read_string.write_by.Goals as goal

pub returns-then-count-buffer-clause-string : goal.returns-then-count-buffer-clause-string
returns-then-count-buffer-clause-string g c = λ is_text.
    let P = g.E.Platform in
    let laws = g.met.E.Platform.laws in
    let read = c.in-Ok.ensures in
    unescaped c.args.form P.well_formed P.units P.part_units g.met.E.Platform.parts (chunks_before_ending g.met.E.Platform.occurrence laws.cut_prefix laws.cut_suffix c.args.form) c.args.escape.now c.args.buffer.now c.read.new.buffer c.in-Ok.count read.0 (read.1.read is_text) read.2
    (λ fits. absurd (omega (arith, fits, c.if-count-buffer.true, read.2.same_length)))

pub returns-then-count-buffer-clause-room : goal.returns-then-count-buffer-clause-room
returns-then-count-buffer-clause-room g c = λ fits. absurd (omega (arith, fits, c.if-count-buffer.true, c.in-Ok.ensures.2.same_length))

pub returns-then-is_unescaped-clause-string : goal.returns-then-is_unescaped-clause-string
returns-then-is_unescaped-clause-string g c = λ is_text.
    let P = g.E.Platform in
    let laws = g.met.E.Platform.laws in
    let read = c.in-Ok.ensures in
    let escape = c.args.escape.now in
    let same = whole read.0 c.args.buffer.now c.read.new.buffer c.in-Ok.count read.2 (omega (arith, c.if-count-buffer.false)) in
    unescaped c.args.form P.well_formed P.units P.part_units g.met.E.Platform.parts (chunks_before_ending g.met.E.Platform.occurrence laws.cut_prefix laws.cut_suffix c.args.form) escape c.args.buffer.now c.read.new.buffer c.in-Ok.count read.0 (read.1.read is_text) read.2
    (λ fits. subst (λ x. P.well_formed x × IsEscapeBy c.args.form P.units x escape) same (c.is_unescaped.ensures.0 c.if-is_unescaped.true))

pub returns-then-is_unescaped-clause-room : goal.returns-then-is_unescaped-clause-room
returns-then-is_unescaped-clause-room g c = λ fits.
    let P = g.E.Platform in
    let laws = g.met.E.Platform.laws in
    let read = c.is_unescaped.ensures.0 c.if-is_unescaped.true in
    escape_is_text c.args.form P.well_formed P.units P.part_units g.met.E.Platform.parts (chunks_before_ending g.met.E.Platform.occurrence laws.cut_prefix laws.cut_suffix c.args.form) _ c.args.escape.now read.0 read.1

pub returns-else-is_unescaped-clause-fault : goal.returns-else-is_unescaped-clause-fault
returns-else-is_unescaped-clause-fault g c = λ is_text.
    let P = g.E.Platform in
    let laws = g.met.E.Platform.laws in
    let read = c.in-Ok.ensures in
    let escape = c.args.escape.now in
    let same = whole read.0 c.args.buffer.now c.read.new.buffer c.in-Ok.count read.2 (omega (arith, c.if-count-buffer.false)) in
    no_escape c.args.form P.well_formed P.units P.part_units g.met.E.Platform.parts (chunks_before_ending g.met.E.Platform.occurrence laws.cut_prefix laws.cut_suffix c.args.form) escape read.0 (read.1.read is_text)
    (λ w e. true≢false (sym (c.is_unescaped.ensures.1 (subst (λ x. P.well_formed x × IsEscapeBy c.args.form P.units x escape) (sym same) (w, e))) ∙ c.if-is_unescaped.false))
