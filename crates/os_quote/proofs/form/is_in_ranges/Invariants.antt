use Rattle.os_quote.proofs.Common.{◌≡◌, length, is_in_ranges}
use Rattle.os_quote.proofs.form.is_in_ranges.Given as goal

abbrev pub invariant-loop-range : goal.invariant-loop-range
invariant-loop-range l = is_in_ranges l.ranges l.number ≡ is_in_ranges l.rest l.number

abbrev pub decreases-loop-range : goal.decreases-loop-range
decreases-loop-range l = length l.rest
