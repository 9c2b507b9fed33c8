use Rattle.wtf8_core.proofs.Common.{subst, sym, IsFirstChar, StartsWithNoCharacter, arith, common_steps, nat_tests}
use Rattle.wtf8_core.proofs.lemmas.characters.AtIndices.{ascii_first, none_in_none}
use Rattle.wtf8_core.proofs.first_character.first_char_of_few.Goals as goal

pub returns-in_err-first : goal.returns-in_err-first
returns-in_err-first c = rw (c.from_residual.ensures) (none_in_none c.args.bytes.now c.in_err-first.ensures.cases)

pub returns-then-first-lt128 : goal.returns-then-first-lt128
returns-then-first-lt128 c = subst (λ x. IsFirstChar c.args.bytes.now x 1) (sym c.from.ensures) (ascii_first c.args.bytes.now _ _ c.in_ok-first.ensures.cases.0 c.if-first-lt128.true)

pub returns-in_err-character : goal.returns-in_err-character
returns-in_err-character c = rw c.from_residual-in_err-character.ensures (subst StartsWithNoCharacter (sym c.in_ok-first.ensures.cases.0) c.in_err-character.ensures)

pub returns : goal.returns
returns c = grind (arith, nat_tests, common_steps, c.len_utf8.ensures.len, c.in_ok-character.ensures)
