use Rattle.std.proofs.Common.{refl}
use Rattle.test_line_uses.proofs.joined_words.word_and_value.Goals as goal

pub returns : goal.returns
returns g c = c.nothing_lost.ensures _ _ _ (_, (c.next-word.ensures, (_, (c.value-value.ensures, refl))))
