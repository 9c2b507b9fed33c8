use Rattle.os_quote.proofs.Common.{length, ◌-◌, ◌≤◌, AllClear}
use Rattle.os_quote.proofs.find_hidden.later_suspect.Given as goal

abbrev pub invariant-loop-at : goal.invariant-loop-at
invariant-loop-at l = (l.from ≤ l.at) × (l.at ≤ length l.bytes) × AllClear l.bytes l.from l.at

abbrev pub decreases-loop-at : goal.decreases-loop-at
decreases-loop-at l = length l.bytes - l.at
