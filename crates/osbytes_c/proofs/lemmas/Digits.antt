-- Hexadecimal numbers.
use Rattle.std.proofs.Common.{◌≡◌, ℕ, zero, suc, ◌-◌, ◌<◌, ◌/◌, ◌%◌, [], ◌∷◌, ◌++◌, refl, arith, sub-one}
use Rattle.wtf8_core.specs.FaultText.{upper_hex, upper_hex_digit}

-- the digits of a number: none, or those before the last and the last
pub upper_hex_none : (k n : ℕ) → k ≡ 0 → upper_hex k n ≡ []
unfolding upper_hex
upper_hex_none zero n e = refl
upper_hex_none (suc k) n e = cc

pub upper_hex_more : (k n : ℕ) → 0 < k → upper_hex k n ≡ upper_hex (k - 1) (n / 16) ++ upper_hex_digit (n % 16) ∷ []
unfolding upper_hex
upper_hex_more zero n h = absurd (omega arith)
upper_hex_more (suc k) n h = rw sub-one refl
