use Rattle.wtf8_core.proofs.Common.{◌∷◌, ◌∙◌, arith, get_or-take, get_or-drop, with_zeros_before}
use Rattle.wtf8_core.proofs.lemmas.vectors.{Lanes.after_zero, PairBits.kept_of_16, PairBits.zeros_fit}
use Rattle.wtf8_core.proofs.vectors.error_bits.allowed_in_first_step.Goals as goal

pub returns-clause-pattern : goal.returns-clause-pattern
returns-clause-pattern c =
    let bytes = c.args.bytes.now in
    let window = with_zeros_before bytes in
    let one = after_zero _ _ bytes c.after_zero-one.ensures (λ i h. get_or-take 16 bytes i 0 h) in
    let two = after_zero _ _ (0 ∷ bytes) c.after_zero-two.ensures one in
    let three = after_zero _ _ (0 ∷ 0 ∷ bytes) c.after_zero.ensures two in
    kept_of_16 window _ _ _ _ _ _ _ (zeros_fit bytes (λ k. omega (arith, c.type_inv.bytes k))) c.error_bits_of_16-wrong.ensures
    (λ i h. three i h ∙ get_or-drop 1 window i 0) (λ i h. two i h ∙ get_or-drop 2 window i 0) (λ i h. one i h ∙ get_or-drop 3 window i 0)
    (λ i h. get_or-take 16 bytes i 0 h ∙ get_or-drop 4 window i 0) c.min.ensures c.leading_zero.ensures.zero
