use Rattle.std.proofs.Common.{◌≤◌, take}
use Rattle.std.specs.List.{All}
use Rattle.os_ignore.proofs.walk.shared_directories.Given as goal

abbrev pub invariant-loop-count : goal.invariant-loop-count
invariant-loop-count l = All (λ directory. directory.start ≤ l.shared) (take l.count l.above)
