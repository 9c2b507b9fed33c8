use Rattle.std.proofs.Common.{◌≤◌, ◌-◌, length}
use Rattle.wildcards.proofs.key.split_at_slash.Given as goal

abbrev pub invariant-loop-at : goal.invariant-loop-at
invariant-loop-at g l = l.at ≤ length l.pieces

abbrev pub decreases-loop-at : goal.decreases-loop-at
decreases-loop-at g l = length l.pieces - l.at
