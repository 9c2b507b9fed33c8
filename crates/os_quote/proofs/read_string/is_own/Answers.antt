use Rattle.os_quote.proofs.Common.{arith}
use Rattle.os_quote.proofs.lemmas.Lines.{cut_is_shorter}
use Rattle.os_quote.proofs.read_string.is_own.Goals as goal

pub returns-in-Some-clause-some : goal.returns-in-Some-clause-some
returns-in-Some-clause-some c = λ _. let shorter = cut_is_shorter _ _ _ _ _ c.in-Some.ensures in omega (arith, shorter)
