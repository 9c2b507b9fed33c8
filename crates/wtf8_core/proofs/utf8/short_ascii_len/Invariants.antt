use Rattle.wtf8_core.proofs.Common.{ℕ, ◌-◌, ◌≤◌, ◌<◌, length, get_or}
use Rattle.wtf8_core.proofs.utf8.short_ascii_len.Given as goal

abbrev pub invariant-loop-at : goal.invariant-loop-at
invariant-loop-at l = (l.at ≤ length l.bytes) × ((i : ℕ) → i < l.at → get_or l.bytes i 0 < 0x80)

abbrev pub decreases-loop-at : goal.decreases-loop-at
decreases-loop-at l = l.last - l.at
