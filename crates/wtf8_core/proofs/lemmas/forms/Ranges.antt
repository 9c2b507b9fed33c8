-- The test of a range of numbers and the fact that it tests.
use Rattle.wtf8_core.proofs.Common.{◌≡◌, ◌⊎◌, ℕ, true, false, arith, nat_tests, is_in_range, IsInRange, IsHigh, IsLow, IsSurrogate}

-- where the test is true
pub in_range-true : (a b x : ℕ) → is_in_range a b x ≡ true → IsInRange a b x
in_range-true a b x e = grind (arith, nat_tests)

-- where it is false
pub in_range-false : (a b x : ℕ) → is_in_range a b x ≡ false → IsInRange a b x → ⊥
in_range-false a b x e h = grind (arith, nat_tests, h)

-- where the fact holds
pub in_range : (a b x : ℕ) → IsInRange a b x → is_in_range a b x ≡ true
in_range a b x h = grind (arith, nat_tests, h)

-- where it does not
pub not_in_range : (a b x : ℕ) → (IsInRange a b x → ⊥) → is_in_range a b x ≡ false
not_in_range a b x h = grind (arith, nat_tests, h)

-- a high surrogate is a surrogate, and so is a low one
pub high_surrogate : (c : ℕ) → IsHigh c → IsSurrogate c
high_surrogate c h = (h.0, omega (arith, h.1))

pub low_surrogate : (c : ℕ) → IsLow c → IsSurrogate c
low_surrogate c h = (omega (arith, h.0), h.1)

-- it holds or it does not
pub range_cases : (a b x : ℕ) → IsInRange a b x ⊎ (IsInRange a b x → ⊥)
range_cases a b x = grind (arith, nat_tests)
