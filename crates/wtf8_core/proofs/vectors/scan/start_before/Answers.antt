use Rattle.wtf8_core.proofs.{Common.◌-◌, Common.arith, lemmas.vectors.Windows.by_pattern}
use Rattle.wtf8_core.proofs.vectors.scan.start_before.Goals as goal

pub returns-then-not-is_continuation-clause-prefix : goal.returns-then-not-is_continuation-clause-prefix
returns-then-not-is_continuation-clause-prefix c s k =
    let t = c.loop-at-test.true in
    let i = c.loop-at.invariant in
    by_pattern s c.args.bytes.now (c.loop-at.at - 1) c.args.end (omega (arith, t, i, c.requires)) (omega (arith, t, i)) k (λ h. let b = c.if-not-is_continuation.ensures.1 h in cc)
