use Rattle.test_line_uses.proofs.JoinedWords.{word_read}
use Rattle.test_line_uses.proofs.joined_words.one_word.Goals as goal

pub returns : goal.returns
returns g c = λ word more kind rest pending ended first other read. word_read c.one_reading.ensures _ word more kind rest pending ended first other read _ _ c.next.ensures
