use Rattle.os_quote.proofs.{Common.arith, Common.length-drop, Common.take_all, lemmas.Texts.first_backslash}
use Rattle.os_quote.proofs.read_token.cut_backslash.Goals as goal

pub returns : goal.returns
returns c = grind (arith, take_all, length-drop, first_backslash)
