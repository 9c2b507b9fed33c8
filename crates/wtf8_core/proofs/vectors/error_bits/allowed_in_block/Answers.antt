use Rattle.wtf8_core.proofs.{Common.arith, lemmas.vectors.PairBits.kept_by_zeros}
use Rattle.wtf8_core.proofs.vectors.error_bits.allowed_in_block.Goals as goal

pub returns-then-are_zero-clause-pattern : goal.returns-then-are_zero-clause-pattern
returns-then-are_zero-clause-pattern c =
    kept_by_zeros c.args.encoding 64 c.args.window.now c.error_bits-wrong.result (λ k. omega (arith, c.type_inv.window k)) c.error_bits-wrong.ensures (c.are_zero.ensures c.if-are_zero.true)

pub returns-in-Utf8-clause-pattern : goal.returns-in-Utf8-clause-pattern
returns-in-Utf8-clause-pattern c =
    let clear = c.leading_zero.ensures in
    kept_by_zeros c.args.encoding _ c.args.window.now c.error_bits-wrong.result (λ k. omega (arith, c.type_inv.window k)) (λ i h. c.error_bits-wrong.ensures i (omega (arith, h, clear.within))) (λ i h. clear.zero i h (omega (arith, h, clear.within)))
