use Rattle.std.proofs.Common.{◌≡◌, ◌++◌, List, length}
use Rattle.os_ignore.specs.declared.file.File.{File}
use Rattle.os_ignore.specs.Directories.{AreLonger}
use Rattle.os_ignore.proofs.directory.files_before.Given as goal

abbrev pub invariant-loop-last : goal.invariant-loop-last
invariant-loop-last g l = (after : List (File _)) × (l.files ≡ l.left ++ after) × AreLonger l.directory after

abbrev pub decreases-loop-last : goal.decreases-loop-last
decreases-loop-last g l = length l.left
