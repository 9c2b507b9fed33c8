use Rattle.wtf8_core.proofs.Common.{◌≡◌, ⊎_elim, ◌+◌, ◌-◌, subst, sym, arith, cases_lt}
use Rattle.wtf8_core.specs.Surrogate.{IsSurrogateAt}
use Rattle.wtf8_core.proofs.vectors.surrogates.text_from.Goals as goal

pub loop-at-preserved : goal.loop-at-preserved
loop-at-preserved c =
    let at = c.loop-at.at in (
      omega (arith, c.loop-at-test.true),
      λ i h k. ⊎_elim (λ lt. c.loop-at.invariant.1 i lt k) (λ ge.
          let same : at + (i - at) ≡ i = omega (arith, ge) in
          c.is_clear.ensures c.if-is_clear.true (i - at) (omega (arith, ge, h)) (subst (IsSurrogateAt c.args.bytes.now) (sym same) k)) (cases_lt i at),
    )
