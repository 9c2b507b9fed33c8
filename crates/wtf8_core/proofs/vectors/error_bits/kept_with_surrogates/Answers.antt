use Rattle.wtf8_core.proofs.{Common.◌≤◌, Common.inr, Common.sym, Common.◌∙◌, Common.arith, lemmas.vectors.PairBits.kept}
use Rattle.wtf8_core.specs.declared.vectors.Encoding.TheVariants.{Wtf8}
use Rattle.wtf8_core.proofs.vectors.error_bits.kept_with_surrogates.Goals as goal

pub returns-clause-pattern : goal.returns-clause-pattern
returns-clause-pattern c =
    let clear = c.leading_zero.ensures in
    let other = c.leading_nonzero.ensures in
    let low : c.min.result ≤ c.leading_zero.result = omega (arith, c.min.ensures) in
    let high : c.min.result ≤ c.leading_nonzero.result = omega (arith, c.min.ensures) in
    kept Wtf8 _ c.args.window.now c.args.wrong (λ k. omega (arith, c.type_inv.window k)) (λ i h. c.requires.wrong i (omega (arith, h, low, clear.within)))
    (λ i h. sym (c.masked.ensures i (omega (arith, h, low, clear.within))) ∙ clear.zero i (omega (arith, h, low)) (omega (arith, h, low, clear.within)))
    (λ i h. inr (λ e. other.other i (omega (arith, h, high)) (c.surrogate_pair_difference.ensures i (omega (arith, h, low, clear.within)) ∙ e)))
    (λ e i h. let k : ⊥ = cc in absurd k)
