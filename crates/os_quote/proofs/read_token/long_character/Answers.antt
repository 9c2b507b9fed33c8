use Rattle.os_quote.proofs.lemmas.LongTokens.{no_long, long_of_six, long_of_five}
use Rattle.os_quote.proofs.read_token.long_character.Goals as goal

pub returns-in_err-digits : goal.returns-in_err-digits
returns-in_err-digits c = rw (c.from_residual.ensures) (λ k h after e. c.in_err-digits.ensures _ e)

pub returns-in-Some : goal.returns-in-Some
returns-in-Some c = long_of_six _ _ _ _ c.in_ok-digits.ensures c.in-Some.ensures

pub returns-in_err-character : goal.returns-in_err-character
returns-in_err-character c = rw (c.from_residual-in_err-character.ensures) (no_long _ _ c.in_ok-digits.ensures c.in_default.ensures c.in_err-character.ensures)

pub returns : goal.returns
returns c = long_of_five _ _ _ _ c.in_ok-digits.ensures c.in_ok-character.ensures
