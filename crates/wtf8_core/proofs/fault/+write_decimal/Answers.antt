use Rattle.wtf8_core.proofs.Common.{common_steps, rules, ◌≡◌, ℕ, ◌+◌, ◌<◌, [], ◌∷◌, ap, ◌∙◌, arith, encode_ascii, encode_utf8}
use Rattle.std.proofs.{Output.has_written_styled_append, Output.has_written_styled_of_eq, lemmas.Fmt.decimal_digit, lemmas.Fmt.decimal_step}
use Rattle.wtf8_core.proofs.fault.+write_decimal.Goals as goal

-- a digit's character is one byte
digit : (c d : ℕ) → d < 10 → c ≡ 48 + d → encode_utf8 c ≡ (48 + d) ∷ []
digit c d small e = encode_ascii c (omega (arith, e, small)) ∙ ap (λ x. x ∷ []) e

pub returns-then-value-lt10 : goal.returns-then-value-lt10
returns-then-value-lt10 g t c = search (rules, common_steps, has_written_styled_of_eq, digit, decimal_digit)

pub returns : goal.returns
returns g t c = search (rules, common_steps, has_written_styled_of_eq, digit, decimal_step, has_written_styled_append)
