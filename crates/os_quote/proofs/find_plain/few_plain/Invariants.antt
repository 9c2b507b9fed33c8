use Rattle.os_quote.proofs.Common.{length, ◌-◌, IsPlainUpTo}
use Rattle.os_quote.proofs.find_plain.few_plain.Given as goal

abbrev pub invariant-loop-at : goal.invariant-loop-at
invariant-loop-at l = IsPlainUpTo l.bytes l.at

abbrev pub decreases-loop-at : goal.decreases-loop-at
decreases-loop-at l = length l.bytes - l.at
