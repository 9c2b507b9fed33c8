use Rattle.os_quote.proofs.{Common.arith, Common.WideUnit, Common.is_any, lemmas.TokenTexts.wide_text, lemmas.TokenTexts.token_is_text}
use Rattle.os_quote.proofs.write_token.TokenText.of_wide.Goals as goal

pub invariant_of-result : goal.invariant_of-result
invariant_of-result c = (omega arith, token_is_text is_any (WideUnit c.args.number) c.ranges.number.fits (wide_text c.args.number _ _ _ _ c.digits-a.ensures.first c.digits-a.ensures.second c.digits-c.ensures.first c.digits-c.ensures.second))

pub returns : goal.returns
returns c = wide_text c.args.number _ _ _ _ c.digits-a.ensures.first c.digits-a.ensures.second c.digits-c.ensures.first c.digits-c.ensures.second
