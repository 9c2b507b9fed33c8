use Rattle.wtf8_core.proofs.Common.{◌+◌, ◌-◌, length, arith, cases_lt, ⊎_elim}
use Rattle.wtf8_core.proofs.lemmas.vectors.Windows.{ascii_at, ascii_is_utf8}
use Rattle.wtf8_core.proofs.utf8.short_ascii_len.Goals as goal

pub returns-then-count-lt-STEP-clause-text : goal.returns-then-count-lt-STEP-clause-text
returns-then-count-lt-STEP-clause-text c =
    let bytes = c.args.bytes.now in
    let at = c.loop-at.at in
    let count = c.ascii_len_at-count.result in
    ascii_is_utf8 bytes (at + count) (λ i h. ⊎_elim (c.loop-at.invariant.1 i) (λ ge. ascii_at bytes at count i c.ascii_len_at-count.ensures.ascii ge h) (cases_lt i at)) (omega (arith, c.loop-at-test.true, c.if-count-lt-STEP.true))

pub loop-at-preserved : goal.loop-at-preserved
loop-at-preserved c =
    let bytes = c.args.bytes.now in
    let at = c.loop-at.at in
    (omega (arith, c.loop-at-test.true), λ i h. ⊎_elim (c.loop-at.invariant.1 i) (λ ge. ascii_at bytes at c.ascii_len_at-count.result i c.ascii_len_at-count.ensures.ascii ge (omega (arith, h, c.if-count-lt-STEP.false))) (cases_lt i at))

pub returns-clause-text : goal.returns-clause-text
returns-clause-text c =
    let bytes = c.args.bytes.now in
    let at = c.loop-at.at in
    let last = length bytes - 16 in
    let count = c.ascii_len_at.result in
    ascii_is_utf8 bytes (last + count) (λ i h. ⊎_elim (c.loop-at.invariant.1 i) (λ ge. ascii_at bytes last count i c.ascii_len_at.ensures.ascii (omega (arith, ge, c.loop-at-test.false)) h) (cases_lt i at)) (omega (arith, c.ascii_len_at.ensures.within))
