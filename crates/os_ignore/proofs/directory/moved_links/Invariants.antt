use Rattle.std.proofs.Common.{◌≡◌, ◌++◌, ◌∷◌, [], List, length}
use Rattle.os_ignore.specs.declared.file.File.{File}
use Rattle.os_ignore.specs.Directories.{AreLonger}
use Rattle.os_ignore.specs.Links.{AreLinks}
use Rattle.os_ignore.proofs.directory.moved_links.Given as goal

abbrev pub invariant-loop-file : goal.invariant-loop-file
invariant-loop-file g l = record {
  done : List (File _);
  joined : l.files ≡ done ++ l.left;
  links : AreLinks (l.before ++ done) l.left l.unmoved;
  longer : AreLonger l.directory l.left;
  moved : (file : File _) → file.directory.items ≡ l.directory → AreLinks (l.before ++ file ∷ []) done l.moved.items;
}

abbrev pub decreases-loop-file : goal.decreases-loop-file
decreases-loop-file g l = length l.left
