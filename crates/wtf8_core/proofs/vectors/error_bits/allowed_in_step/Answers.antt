use Rattle.wtf8_core.proofs.{Common.arith, lemmas.vectors.PairBits.kept_of_16}
use Rattle.wtf8_core.proofs.vectors.error_bits.allowed_in_step.Goals as goal

pub returns-clause-pattern : goal.returns-clause-pattern
returns-clause-pattern c = kept_of_16 c.args.window.now _ _ _ _ _ _ _ (λ k. omega (arith, c.type_inv.window k)) c.error_bits_of_16-wrong.ensures c.load-three.ensures c.load-two.ensures c.load.ensures c.load-2.ensures c.min.ensures c.leading_zero.ensures.zero
