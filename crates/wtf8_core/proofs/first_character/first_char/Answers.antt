use Rattle.wtf8_core.proofs.Common.{MatchOption, drop, subst, sym, IsFirstChar, StartsWithNoCharacter}
use Rattle.wtf8_core.proofs.lemmas.characters.FourBytes.{four_first}
use Rattle.wtf8_core.proofs.first_character.first_char.Goals as goal

pub returns : goal.returns
returns c =
    let bytes = c.args.bytes.now in
    subst (λ l. MatchOption c.char_of_four.result (StartsWithNoCharacter l) (λ first. IsFirstChar l first.0 first.1))
    (sym (four_first bytes c.in-len4-up.len_at_least)) (c.char_of_four.ensures (drop 4 bytes))
