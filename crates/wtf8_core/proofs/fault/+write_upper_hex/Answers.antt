use Rattle.wtf8_core.proofs.Common.{◌≡◌, ℕ, zero, suc, ◌-◌, ◌<◌, ◌/◌, ◌%◌, [], ◌∷◌, ◌++◌, refl, arith, rules, sub-one, encode_ascii, common_steps, upper_hex, upper_hex_digit}
use Rattle.std.proofs.Output.{has_written_styled_append, has_written_styled_of_eq}
use Rattle.wtf8_core.proofs.fault.+write_upper_hex.Goals as goal

upper_hex-none : (k n : ℕ) → k ≡ 0 → upper_hex k n ≡ []
unfolding upper_hex
upper_hex-none zero n e = refl
upper_hex-none (suc k) n e = cc

upper_hex-more : (k n : ℕ) → 0 < k → upper_hex k n ≡ upper_hex (k - 1) (n / 16) ++ upper_hex_digit (n % 16) ∷ []
unfolding upper_hex
upper_hex-more zero n h = absurd (omega arith)
upper_hex-more (suc k) n h = rw sub-one refl

pub returns-then-digits-eq0 : goal.returns-then-digits-eq0
returns-then-digits-eq0 g t c = search (rules, common_steps, upper_hex-none)

pub returns : goal.returns
returns g t c = grind (arith, upper_hex-more, encode_ascii, upper_hex_digit, has_written_styled_of_eq, has_written_styled_append)
