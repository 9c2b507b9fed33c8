use Rattle.std.proofs.Common.{◌≡◌, ◌++◌, List, length}
use Rattle.std.specs.List.{AllByRecursion}
use Rattle.os_ignore.specs.declared.file.File.{File}
use Rattle.os_ignore.specs.Ignores.{FileHasNoText}
use Rattle.os_ignore.proofs.directory.text_in.Given as goal

abbrev pub invariant-loop-file : goal.invariant-loop-file
invariant-loop-file g l = (after : List (File _)) × (l.files ≡ l.left ++ after) × AllByRecursion (FileHasNoText l.number l.line) after

abbrev pub decreases-loop-file : goal.decreases-loop-file
decreases-loop-file g l = length l.left
