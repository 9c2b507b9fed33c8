use Rattle.os_quote.proofs.{Common.nil_from_length, Common.shown_by, lemmas.Tokens.nothing_after, lemmas.Tokens.no_digits, lemmas.Tokens.no_number}
use Rattle.os_quote.proofs.read_token.first_token.Goals as goal

pub returns-in_err-kind : goal.returns-in_err-kind
returns-in_err-kind c = rw (c.from_residual.ensures) (nothing_after (shown_by c.args.form) _ (nil_from_length _ c.in_err-kind.ensures.cases))

pub returns-in_err-unit-in-120 : goal.returns-in_err-unit-in-120
returns-in_err-unit-in-120 c = rw (c.from_residual-in_err-unit-in-120.ensures) (no_digits (shown_by c.args.form) _ _ _ c.in_ok-kind.ensures.cases.0 c.in-120.is c.in_err-unit-in-120.ensures)

pub returns-in_err-token-in-117 : goal.returns-in_err-token-in-117
returns-in_err-token-in-117 c = rw (c.from_residual-in_err-token-in-117.ensures) (no_number (shown_by c.args.form) _ _ _ c.in_ok-kind.ensures.cases.0 c.in-117.is c.in_err-token-in-117.ensures)
