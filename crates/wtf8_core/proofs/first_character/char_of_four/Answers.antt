use Rattle.wtf8_core.proofs.Common.{◌≡◌, ◌≤◌, ◌+◌, ◌*◌, ◌∙◌, sym, subst, refl, ◌∷◌, IsScalar, IsFirstChar, arith, nat_tests}
use Rattle.wtf8_core.proofs.lemmas.characters.{AtIndices.ascii_first, ByValue.value_of_three, ByValue.value_of_four, ByValue.none_by_lead, ByValue.none_of_two, ByValue.none_of_three, ByValue.none_of_four, ByValue.char_of_two, ByValue.char_of_three, ByValue.char_of_four, ByValue.second_of_three, ByValue.second_of_four, ByValue.none_by_three, ByValue.none_by_four}
use Rattle.wtf8_core.proofs.first_character.char_of_four.Goals as goal

pub returns-then-first-lt128 : goal.returns-then-first-lt128
returns-then-first-lt128 c rest = subst (λ x. IsFirstChar (c.args.first ∷ c.args.second ∷ c.args.third ∷ c.args.fourth ∷ rest) x 1) (sym c.from.ensures) (ascii_first _ _ _ refl c.if-first-lt128.true)

pub returns-then-low-ge64 : goal.returns-then-low-ge64
returns-then-low-ge64 c rest =
    none_of_two c.args.first c.args.second c.args.third c.args.fourth rest c.if-first-lt128.false (c.low_bits-low.ensures.none (omega arith))

pub returns-then-lead : goal.returns-then-lead
returns-then-lead c rest =
    let a = c.args in
    (char_of_two a.first a.second a.third a.fourth rest c.if-first-lt128.false _ (grind (arith, nat_tests), grind (arith, nat_tests)) (grind (arith, nat_tests))
    (grind (arith, nat_tests, c.low_bits-low.ensures.bits)) (grind (arith, nat_tests, c.low_bits-low.ensures.bits))).1

pub returns-then-high-low : goal.returns-then-high-low
returns-then-high-low c rest =
    none_of_three c.args.first c.args.second c.args.third c.args.fourth rest c.if-first-lt128.false (grind (arith, nat_tests))
    (grind (arith, nat_tests, c.low_bits-high.ensures.none, c.low_bits-low-then-lead-2.ensures.none))

pub returns-then-code_point-lt2048 : goal.returns-then-code_point-lt2048
returns-then-code_point-lt2048 c rest =
    let a = c.args in
    none_by_three a.first a.second a.third a.fourth rest c.if-first-lt128.false (grind (arith, nat_tests)) (grind (arith, nat_tests))
    (λ h _. grind (arith, nat_tests, h, c.low_bits-high.ensures.bits, c.low_bits-low-then-lead-2.ensures.bits, c.if-code_point-lt2048.true))

pub returns-then-lead-2 : goal.returns-then-lead-2
returns-then-lead-2 c rest =
    let a = c.args in
    let k = c.low_bits-high.ensures.bits (grind (arith, nat_tests)) in
    let l = c.low_bits-low-then-lead-2.ensures.bits (grind (arith, nat_tests)) in
    let v = c.in_ok-from_u32.ensures.value in
    let is : c.in_ok-from_u32.field-0 ≡ value_of_three a.first a.second a.third = v.1 ∙ grind (arith, nat_tests, k, l) in
    (char_of_three a.first a.second a.third a.fourth rest c.if-first-lt128.false _ (grind (arith, nat_tests)) (grind (arith, nat_tests))
    (second_of_three a.first a.second a.third (grind (arith, nat_tests)) (grind (arith, nat_tests)) k.0 (subst (λ v. 0x800 ≤ v) is (omega (arith, v.1, c.if-code_point-lt2048.false))) (subst IsScalar (sym v.1 ∙ is) v.0))
    l.0 is).1

pub returns-in_err-from_u32 : goal.returns-in_err-from_u32
returns-in_err-from_u32 c rest =
    let a = c.args in
    let is : value_of_three a.first a.second a.third ≡ c.from-then-lead-2.result * 0x1000 + c.low_bits-high.result * 0x40 + c.low_bits-low-then-lead-2.result = grind (arith, nat_tests, c.low_bits-high.ensures.bits, c.low_bits-low-then-lead-2.ensures.bits) in
    rw (c.from_residual.ensures)
    (none_by_three a.first a.second a.third a.fourth rest c.if-first-lt128.false (grind (arith, nat_tests)) (grind (arith, nat_tests))
    (λ _ s. c.in_err-from_u32.ensures.value (subst IsScalar is s)))

pub returns-then-lead-3 : goal.returns-then-lead-3
returns-then-lead-3 c rest =
    none_by_lead c.args.first c.args.second c.args.third c.args.fourth rest c.if-first-lt128.false (λ f. grind (arith, nat_tests, f))

pub returns-then-high-middle : goal.returns-then-high-middle
returns-then-high-middle c rest =
    none_of_four c.args.first c.args.second c.args.third c.args.fourth rest c.if-first-lt128.false (grind (arith, nat_tests))
    (grind (arith, nat_tests, c.low_bits-high-2.ensures.none, c.low_bits-middle.ensures.none, c.low_bits-low-2.ensures.none))

pub returns-then-code_point-lt65536 : goal.returns-then-code_point-lt65536
returns-then-code_point-lt65536 c rest =
    let a = c.args in
    none_by_four a.first a.second a.third a.fourth rest c.if-first-lt128.false (grind (arith, nat_tests)) (grind (arith, nat_tests))
    (λ h _. grind (arith, nat_tests, h, c.low_bits-high-2.ensures.bits, c.low_bits-middle.ensures.bits, c.low_bits-low-2.ensures.bits, c.if-code_point-lt65536.true))

pub returns : goal.returns
returns c rest =
    let a = c.args in
    let k = c.low_bits-high-2.ensures.bits (grind (arith, nat_tests)) in
    let m = c.low_bits-middle.ensures.bits (grind (arith, nat_tests)) in
    let l = c.low_bits-low-2.ensures.bits (grind (arith, nat_tests)) in
    let v = c.in_ok-from_u32-2.ensures.value in
    let is : c.in_ok-from_u32-2.field-0 ≡ value_of_four a.first a.second a.third a.fourth = v.1 ∙ grind (arith, nat_tests, k, m, l) in
    (char_of_four a.first a.second a.third a.fourth rest c.if-first-lt128.false _ (grind (arith, nat_tests)) (grind (arith, nat_tests))
    (second_of_four a.first a.second a.third a.fourth (grind (arith, nat_tests)) (grind (arith, nat_tests)) k.0 (subst (λ v. 0x1_0000 ≤ v) is (omega (arith, v.1, c.if-code_point-lt65536.false))) (subst IsScalar (sym v.1 ∙ is) v.0))
    m.0 l.0 is).1

pub returns-in_err-from_u32-2 : goal.returns-in_err-from_u32-2
returns-in_err-from_u32-2 c rest =
    let a = c.args in
    let is : value_of_four a.first a.second a.third a.fourth ≡ c.from-2.result * 0x4_0000 + c.low_bits-high-2.result * 0x1000 + c.low_bits-middle.result * 0x40 + c.low_bits-low-2.result = grind (arith, nat_tests, c.low_bits-high-2.ensures.bits, c.low_bits-middle.ensures.bits, c.low_bits-low-2.ensures.bits) in
    rw (c.from_residual-in_err-from_u32-2.ensures)
    (none_by_four a.first a.second a.third a.fourth rest c.if-first-lt128.false (grind (arith, nat_tests)) (grind (arith, nat_tests))
    (λ _ s. c.in_err-from_u32-2.ensures.value (subst IsScalar is s)))
