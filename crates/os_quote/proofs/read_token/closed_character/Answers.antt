use Rattle.os_quote.proofs.lemmas.LongTokens.{no_closed_digits, no_closing}
use Rattle.os_quote.proofs.read_token.closed_character.Goals as goal

pub returns-in_err-number : goal.returns-in_err-number
returns-in_err-number c = rw (c.from_residual.ensures) (no_closed_digits _ c.in_err-number.ensures)

pub returns-in_err-rest : goal.returns-in_err-rest
returns-in_err-rest c = rw (c.from_residual-in_err-rest.ensures) (no_closing _ _ _ c.in_ok-number.ensures c.in_err-rest.ensures)
