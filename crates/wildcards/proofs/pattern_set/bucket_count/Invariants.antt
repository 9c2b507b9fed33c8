use Rattle.std.proofs.Common.{◌<◌, ◌≤◌, ◌-◌}
use Rattle.wildcards.proofs.pattern_set.bucket_count.Given as goal

abbrev pub invariant-loop-count : goal.invariant-loop-count
invariant-loop-count l = (0 < l.count) × (l.count ≤ 0x2000_0000)

abbrev pub decreases-loop-count : goal.decreases-loop-count
decreases-loop-count l = 0x2000_0000 - l.count
