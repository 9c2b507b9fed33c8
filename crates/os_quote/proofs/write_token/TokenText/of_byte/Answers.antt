use Rattle.os_quote.proofs.{Common.arith, Common.ByteUnit, Common.is_any, lemmas.TokenTexts.byte_text, lemmas.TokenTexts.token_is_text}
use Rattle.os_quote.proofs.write_token.TokenText.of_byte.Goals as goal

pub invariant_of-result : goal.invariant_of-result
invariant_of-result c = (omega arith, token_is_text is_any (ByteUnit c.args.byte) c.ranges.byte.fits (byte_text c.args.byte _ _ c.digits-a.ensures.first c.digits-a.ensures.second))

pub returns : goal.returns
returns c = byte_text c.args.byte _ _ c.digits-a.ensures.first c.digits-a.ensures.second
