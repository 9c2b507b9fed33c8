use Rattle.os_quote.proofs.Common.{◌%◌, arith, LongCharacter, stays_on_line}
use Rattle.os_quote.proofs.lemmas.{TokenTexts.four_digits, TokenTexts.five_text, TokenTexts.six_text, TokenTexts.token_is_text, Tokens.line_has_long}
use Rattle.os_quote.proofs.write_token.TokenText.of_long.Goals as goal

pub invariant_of-result : goal.invariant_of-result
invariant_of-result c =
    let low = four_digits (c.args.number % 0x1_0000) _ _ _ _ c.digits-a.ensures.first c.digits-a.ensures.second c.digits-c.ensures.first c.digits-c.ensures.second in
    (omega arith, token_is_text stays_on_line (LongCharacter c.args.number) (line_has_long, (c.requires.past, c.requires.below)) (six_text c.args.number _ _ _ _ (omega (arith, c.if-number-ge1048576.true)) c.requires.below low))

pub returns-then-number-ge1048576 : goal.returns-then-number-ge1048576
returns-then-number-ge1048576 c =
    let low = four_digits (c.args.number % 0x1_0000) _ _ _ _ c.digits-a.ensures.first c.digits-a.ensures.second c.digits-c.ensures.first c.digits-c.ensures.second in
    six_text c.args.number _ _ _ _ (omega (arith, c.if-number-ge1048576.true)) c.requires.below low

pub invariant_of-result-2 : goal.invariant_of-result-2
invariant_of-result-2 c =
    let low = four_digits (c.args.number % 0x1_0000) _ _ _ _ c.digits-a.ensures.first c.digits-a.ensures.second c.digits-c.ensures.first c.digits-c.ensures.second in
    (omega arith, token_is_text stays_on_line (LongCharacter c.args.number) (line_has_long, (c.requires.past, c.requires.below)) (five_text c.args.number _ _ _ _ _ (omega (arith, c.if-number-ge1048576.false)) c.digits-zero.ensures.second low))

pub returns : goal.returns
returns c =
    let low = four_digits (c.args.number % 0x1_0000) _ _ _ _ c.digits-a.ensures.first c.digits-a.ensures.second c.digits-c.ensures.first c.digits-c.ensures.second in
    five_text c.args.number _ _ _ _ _ (omega (arith, c.if-number-ge1048576.false)) c.digits-zero.ensures.second low
