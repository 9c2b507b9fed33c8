use Rattle.std.proofs.Common.{◌≤◌, ◌-◌, length}
use Rattle.wildcards.proofs.key.literal_prefix.Given as goal

abbrev pub invariant-loop-count : goal.invariant-loop-count
invariant-loop-count g l = l.count ≤ length l.pieces

abbrev pub decreases-loop-count : goal.decreases-loop-count
decreases-loop-count g l = length l.pieces - l.count
