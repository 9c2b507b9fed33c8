use Rattle.os_quote.proofs.Common.{length, take, ◌-◌, IsCharBoundary, AreUnchanged, stays_on_line}
use Rattle.os_quote.proofs.find_hidden.split_at_suspect.Given as goal

abbrev pub invariant-loop-suspect : goal.invariant-loop-suspect
invariant-loop-suspect l = IsCharBoundary l.text l.at × AreUnchanged stays_on_line (take l.at l.text)

abbrev pub decreases-loop-suspect : goal.decreases-loop-suspect
decreases-loop-suspect l = length l.text - l.at
