use Rattle.std.proofs.Common.{◌-◌, length}
use Rattle.os_ignore.specs.Above.{IsShared}
use Rattle.os_ignore.proofs.walk.shared_bytes.Given as goal

abbrev pub invariant-loop-count : goal.invariant-loop-count
invariant-loop-count l = IsShared l.path l.other l.count

abbrev pub decreases-loop-count : goal.decreases-loop-count
decreases-loop-count l = length l.path - l.count
