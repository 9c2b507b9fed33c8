use Rattle.std.proofs.Common.{◌≡◌, ◌≤◌, ◌++◌, List, length}
use Rattle.std.specs.List.{AllByRecursion}
use Rattle.os_ignore.specs.declared.file.File.{File}
use Rattle.os_ignore.proofs.directory.last_in.Given as goal

abbrev pub invariant-loop-last : goal.invariant-loop-last
invariant-loop-last g l = record {
  after : List (File _);
  joined : l.files ≡ l.left ++ after;
  from : l.low ≤ length l.left;
  none_after : AllByRecursion (λ file. file.directory.items ≡ l.directory → ⊥) after;
}

abbrev pub decreases-loop-last : goal.decreases-loop-last
decreases-loop-last g l = length l.left
