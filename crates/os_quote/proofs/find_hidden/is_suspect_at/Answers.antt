use Rattle.os_quote.proofs.Common.{arith, is_suspect}
use Rattle.os_quote.proofs.find_hidden.is_suspect_at.Goals as goal

pub returns : goal.returns
returns c = grind (arith, is_suspect)
